-- The recursion over slots ends with the last one.
use Rattle.std.proofs.Common.{length}
use Rattle.change_journal.proofs.bodies.+put_slots.Given as goal

abbrev pub decreases-put_slots : goal.decreases-put_slots
decreases-put_slots g l = length l.slots.now
