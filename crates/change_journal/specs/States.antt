-- What an append finds and leaves.
use Rattle.std.specs.Prelude.{◌≡◌, ◌⊎◌, ℕ, ◌≤◌, List, [], ◌∷◌, ◌++◌, length, All, Bool, true, false, ◌+◌}
use Rattle.venue_ports.specs.Moments.{Moment, Range, Leaves, Now}
use Rattle.venue_hall.specs.Records.{Logged}
use Rattle.change_journal.specs.Texts.{record_body, journal_text, IsRecord, IsClosed, IsJournal}

-- the gate may be open or not; behind it stands a whole record and a gate that isn't open
pub record HasLast (records : List Logged) (bytes : List ℕ) : Type 0 where
  pub gate : ℕ
  pub last : Logged
  pub next : ℕ
  pub rest : List ℕ
  pub text : bytes ≡ journal_text records ++ gate ∷ (record_body last ++ next ∷ rest)
  pub shut : next ≡ 1 → ⊥
  pub is_record : IsRecord last
  pub all : All IsRecord records

-- the gate is closed in whatever a stop may leave
pub record IsShut (records : List Logged) (gate : ℕ) (m : Moment) : Type 0 where
  pub at_gate : gate ≡ length (journal_text records)
  pub reads : IsClosed records m.reads
  pub images : (image : List ℕ) → Leaves m image → IsClosed records image

-- a new journal: at most one byte, and no record
pub record IsNew (records : List Logged) (gate : ℕ) (m : Moment) : Type 0 where
  pub none : records ≡ []
  pub at_gate : gate ≡ 0
  pub reads : length m.reads ≤ 1
  pub images : (image : List ℕ) → Leaves m image → length image ≤ 1

-- an append failed after it had begun to open the gate, and wrote the gate last
pub record IsUnsure (records : List Logged) (gate : ℕ) (m : Moment) : Type 0 where
  pub at_gate : gate ≡ length (journal_text records)
  pub reads : HasLast records m.reads
  pub images : (image : List ℕ) → Leaves m image → HasLast records image
  pub earlier : List Range
  pub loose : m.loose ≡ record { at = gate; count = 1 } ∷ earlier

-- a journal's moment between two appends, where its gate is known to be shut, or isn't
abbrev pub IsReady : List Logged → ℕ → Bool → Moment → Type 0
IsReady records gate true m = IsShut records gate m
IsReady records gate false m = IsNew records gate m ⊎ IsUnsure records gate m

-- in an append: behind the closed gate what was written of the body
pub record IsWriting (records : List Logged) (gate : ℕ) (written : List ℕ) (m : Moment) : Type 0 where
  pub at_gate : gate ≡ length (journal_text records)
  pub value : ℕ
  pub rest : List ℕ
  pub text : m.reads ≡ journal_text records ++ value ∷ (written ++ rest)
  pub shut : value ≡ 1 → ⊥
  pub all : All IsRecord records
  pub images : (image : List ℕ) → Leaves m image → IsClosed records image

-- the same of a text whose last bytes wait for the next write, and where that goes
pub record IsPutting (records : List Logged) (gate place : ℕ) (text waiting : List ℕ) (m : Moment) : Type 0 where
  pub written : List ℕ
  pub whole : text ≡ written ++ waiting
  pub at_place : place ≡ gate + 1 + length written
  pub state : IsWriting records gate written m

-- the body and the next gate stand behind the closed gate, in whatever a stop may leave
pub record IsStaged (records : List Logged) (gate : ℕ) (entry : Logged) (m : Moment) : Type 0 where
  pub at_gate : gate ≡ length (journal_text records)
  pub value : ℕ
  pub rest : List ℕ
  pub text : m.reads ≡ journal_text records ++ value ∷ (record_body entry ++ 0 ∷ rest)
  pub shut : value ≡ 1 → ⊥
  pub all : All IsRecord records
  pub images : (image : List ℕ) → Leaves m image → image ≡ m.reads

-- left before, or these records
abbrev pub IsAsBefore : List Logged → List Moment → List ℕ → Type 0
IsAsBefore records old image = Now (λ m. Leaves m image) old ⊎ IsJournal records image

-- these records, or one more
abbrev pub IsEither : List Logged → Logged → List ℕ → Type 0
IsEither records entry image = IsJournal records image ⊎ IsJournal (records ++ entry ∷ []) image

-- what a stop in an append may leave: what a stop before it might have left, or the records, or the records with the one that is appended
abbrev pub IsBetween : List Logged → Logged → List Moment → List ℕ → Type 0
IsBetween records entry old image = Now (λ m. Leaves m image) old ⊎ IsEither records entry image
