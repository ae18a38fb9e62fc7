-- The text of a journal: records one after the other, each behind an open gate, then a gate that isn't open, then anything.
use Rattle.std.specs.Prelude.{◌≡◌, ◌⊎◌, ℕ, ◌<◌, ◌≤◌, ◌^◌, List, [], ◌∷◌, ◌++◌, All, flat_map, length}
use Rattle.std.specs.Int.{bytes_high_first}
use Rattle.venue_types.specs.declared.files.Slot.{Slot}
use Rattle.venue_types.specs.declared.files.Slot.TheVariants.{Absent, Held}
use Rattle.venue_hall.specs.Records.{Logged, LoggedAct, published, closed, reopened, IsLoggable}

-- a file's slot: 0, or 1, the file's length in eight bytes, and its bytes; numbers stand with the most significant byte first
abbrev pub slot_text : Slot → List ℕ
slot_text Absent = 0 ∷ []
slot_text (Held bytes) = 1 ∷ (bytes_high_first 8 (length bytes) ++ bytes)

-- the kind and the worker; then the seventeen slots, or an identifier in sixteen bytes and a set of profiles in two
abbrev pub act_text : ℕ → LoggedAct → List ℕ
act_text worker (published slots) = 1 ∷ (worker ∷ flat_map slot_text slots)
act_text worker (closed feature profiles) = 2 ∷ (worker ∷ (bytes_high_first 16 feature.0 ++ bytes_high_first 2 profiles))
act_text worker (reopened feature profiles) = 3 ∷ (worker ∷ (bytes_high_first 16 feature.0 ++ bytes_high_first 2 profiles))

-- what stands behind a record's gate
abbrev pub record_body : Logged → List ℕ
record_body entry = act_text entry.worker entry.act

-- the gate 1, and the body
abbrev pub record_text : Logged → List ℕ
record_text entry = 1 ∷ record_body entry

abbrev pub journal_text : List Logged → List ℕ
journal_text records = flat_map record_text records

-- an identifier and a set of profiles have their ranges
abbrev pub HasRanges : LoggedAct → Type 0
HasRanges (published slots) = Unit {0}
HasRanges (closed feature profiles) = (feature.0 < 2 ^ 128) × (profiles < 2 ^ 16)
HasRanges (reopened feature profiles) = (feature.0 < 2 ^ 128) × (profiles < 2 ^ 16)

-- a record that a journal may have
pub record IsRecord (entry : Logged) : Type 0 where
  pub loggable : IsLoggable entry
  pub ranges : HasRanges entry.act

-- behind the records a gate that isn't open, then anything
pub record IsClosed (records : List Logged) (bytes : List ℕ) : Type 0 where
  pub gate : ℕ
  pub rest : List ℕ
  pub text : bytes ≡ journal_text records ++ gate ∷ rest
  pub shut : gate ≡ 1 → ⊥
  pub all : All IsRecord records

-- at most one byte, and no record
pub record IsFresh (records : List Logged) (bytes : List ℕ) : Type 0 where
  pub none : records ≡ []
  pub short : length bytes ≤ 1

-- the bytes are a journal of these records
abbrev pub IsJournal : List Logged → List ℕ → Type 0
IsJournal records bytes = IsFresh records bytes ⊎ IsClosed records bytes
