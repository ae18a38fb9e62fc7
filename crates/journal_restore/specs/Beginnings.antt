-- A history begun in a journal that has no record.
use Rattle.std.specs.Prelude.{◌≡◌, ℕ, List, [], ◌∷◌, true, false}
use Rattle.std.specs.Option.{option_map}
use Rattle.venue_ports.specs.Moments.{Moment}
use Rattle.venue_types.specs.declared.files.Slot.{Slot}
use Rattle.venue_hall.specs.Records.{Logged, published}
use Rattle.change_journal.specs.Appends.{IsAppend}
use Rattle.change_journal.specs.Told.{told_records}
use Rattle.journal_restore.specs.declared.restored.RestoreFault.{RestoreFault}
use Rattle.journal_restore.specs.declared.restored.RestoreFault.TheVariants as fault

-- the record of the publication that opens a history
abbrev pub opening_record : List Slot → Logged
opening_record slots = record { worker = 0; act = published slots }

-- the opening's record was appended, and is the one that there is
pub record IsBegun (slots : List Slot) (old : List Moment) (count : ℕ) (new : List Moment) : Type 0 where
  pub one : count ≡ 1
  pub append : IsAppend [] old (record { entry = opening_record slots; is_ok = true; moments = new })
  pub told : told_records 1 new ≡ option_map (λ _. opening_record slots ∷ []) (told_records 0 old)

-- it wasn't: no call of the disk was made where memory ran out, and one failed else
abbrev pub IsUnbegun : List Slot → List Moment → RestoreFault → List Moment → Type 0
IsUnbegun slots old fault.OutOfMemory new = new ≡ old
IsUnbegun slots old _ new = IsAppend [] old (record { entry = opening_record slots; is_ok = false; moments = new })
