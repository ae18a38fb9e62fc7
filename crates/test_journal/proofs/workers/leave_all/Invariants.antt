use Rattle.std.proofs.Common.{◌≡◌, ◌+◌, length}
use Rattle.shared_hall.specs.Offices.{parts_of}
use Rattle.test_journal.proofs.workers.leave_all.Given as goal

abbrev pub invariant-loop-seat : goal.invariant-loop-seat
invariant-loop-seat g l =
    (length l.passes.items + length l.seats.items ≡ length l.initial.seats.items)
    × (parts_of l.passes.items + parts_of l.seats.items ≡ parts_of l.initial.seats.items)

abbrev pub decreases-loop-seat : goal.decreases-loop-seat
decreases-loop-seat g l = length l.seats.items
