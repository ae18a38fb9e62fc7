-- The recursion over slots ends with the last one.
use Rattle.change_journal.proofs.slots.+slots_at.Given as goal

abbrev pub decreases-slots_at : goal.decreases-slots_at
decreases-slots_at g l = l.count
