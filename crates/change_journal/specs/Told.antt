-- What a journal tells.
use Rattle.std.specs.Prelude.{◌⊎◌, ℕ, List, [], ◌∷◌, ◌++◌, Option, Some, None}
use Rattle.venue_ports.specs.Moments.{Moment, Leaves, Now}
use Rattle.venue_hall.specs.Records.{Logged}
use Rattle.change_journal.specs.Reading.{records_in}
use Rattle.change_journal.specs.Texts.{IsJournal}

-- the first so many records of what a read gives
abbrev pub recorded : ℕ → List Moment → List Logged
recorded count [] = []
recorded count (now ∷ past) = records_in count now.reads

-- the same, where the disk tells
abbrev pub told_records : ℕ → List Moment → Option (List Logged)
told_records count [] = None
told_records count (now ∷ past) = Some (records_in count now.reads)

-- the bytes are a journal of these records, or of these and one more
abbrev pub IsWithinOne : List Logged → List ℕ → Type 0
IsWithinOne records bytes = IsJournal records bytes ⊎ ((last : Logged) × IsJournal (records ++ last ∷ []) bytes)

-- what a read gives, and whatever a stop may leave, is a journal of the first so many records, or of these and one more
abbrev pub HoldsRecords : ℕ → List Moment → Type 0
HoldsRecords count moments =
    Now (λ m. IsWithinOne (recorded count moments) m.reads × ((image : List ℕ) → Leaves m image → IsWithinOne (recorded count moments) image)) moments
