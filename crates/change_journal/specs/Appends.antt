-- Appends one after the other, and what a stop leaves of them.
use Rattle.std.specs.Prelude.{◌≡◌, ◌⊎◌, ℕ, List, [], ◌∷◌, ◌++◌, Bool, true, false, Contains, if◌then◌else◌, Result, Ok, Err}
use Rattle.venue_ports.specs.Moments.{Moment, Leaves, LeavesOnly, Now}
use Rattle.venue_hall.specs.Records.{Logged}
use Rattle.change_journal.specs.Texts.{IsJournal}
use Rattle.change_journal.specs.States.{IsBetween}

-- an append that has ended: its record, whether it answered Ok, and the moments when it had
pub record Append : Type 0 where
  pub entry : Logged
  pub is_ok : Bool
  pub moments : List Moment

-- the records behind an append
abbrev pub records_after : List Logged → Append → List Logged
records_after records append = if append.is_ok then records ++ append.entry ∷ [] else records

-- what an append keeps: in it a stop leaves what it might have left before, the records, or these and its own; once it has answered Ok, these alone;
-- and a disk that told nothing tells nothing
pub record IsAppend (records : List Logged) (old : List Moment) (append : Append) : Type 0 where
  pub only : LeavesOnly (IsBetween records append.entry old) old append.moments
  pub kept : append.is_ok ≡ true → Now (λ m. (image : List ℕ) → Leaves m image → IsJournal (records ++ append.entry ∷ []) image) append.moments
  pub untold : old ≡ [] → append.moments ≡ []

-- an append by what it answered
abbrev pub ended : {E : Type 0} → Logged → Result (Unit {0}) E → List Moment → Append
ended entry (Ok done) moments = record { entry = entry; is_ok = true; moments = moments }
ended entry (Err failed) moments = record { entry = entry; is_ok = false; moments = moments }

-- each of these appends, one after the other
abbrev pub AreAppends : List Logged → List Moment → List Append → Type 0
AreAppends records old [] = Unit {0}
AreAppends records old (append ∷ rest) = IsAppend records old append × AreAppends (records_after records append) append.moments rest

-- the records of those that answered Ok, behind the first ones
abbrev pub kept_records : List Logged → List Append → List Logged
kept_records records [] = records
kept_records records (append ∷ rest) = kept_records (records_after records append) rest

-- the records of those that failed behind the last that answered Ok, beside others that had failed before
abbrev pub loose_records : List Logged → List Append → List Logged
loose_records failed [] = failed
loose_records failed (append ∷ rest) = loose_records (if append.is_ok then [] else failed ++ append.entry ∷ []) rest

abbrev pub moments_after : List Moment → List Append → List Moment
moments_after old [] = old
moments_after old (append ∷ rest) = moments_after append.moments rest

-- a journal of these records, or of these and one more, which is among the others
abbrev pub IsJournalWith : List Logged → List Logged → List ℕ → Type 0
IsJournalWith records others image = IsJournal records image ⊎ ((last : Logged) × Contains others last × IsJournal (records ++ last ∷ []) image)
