-- The recursion over slots ends with the last one.
use Rattle.change_journal.proofs.slots.+slots_end.Given as goal

abbrev pub decreases-slots_end : goal.decreases-slots_end
decreases-slots_end g l = l.count
