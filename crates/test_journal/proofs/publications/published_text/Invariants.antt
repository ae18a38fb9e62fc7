-- The slots of a folder, one after the other.
use Rattle.std.proofs.Common.{◌≡◌, ◌∷◌, ◌++◌, drop}
use Rattle.std.specs.List.{flat_map}
use Rattle.change_journal.specs.Texts.{slot_text}
use Rattle.test_journal.proofs.publications.published_text.Given as goal

-- the text so far, and the slots to come
abbrev pub invariant-loop-slot : goal.invariant-loop-slot
invariant-loop-slot l = l.text.items ++ flat_map slot_text (drop l.slot-index l.files.slots) ≡ 1 ∷ (1 ∷ (l.worker ∷ flat_map slot_text l.files.slots))
