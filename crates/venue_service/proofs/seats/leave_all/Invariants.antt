use Rattle.std.proofs.Common.{◌≡◌, ◌++◌, length}
use Rattle.venue_types.specs.Room.{HasRoom}
use Rattle.venue_service.proofs.seats.leave_all.Given as goal

abbrev pub invariant-loop-seat : goal.invariant-loop-seat
invariant-loop-seat g l =
    (goal.iterator-loop-seat g).can_next l.seat-iterator
    × (goal.iterator-loop-seat g).is_finite l.seat-iterator
    × (l.passes.items ++ l.seat-iterator.rest.items ≡ l.fn.seats.items)
    × HasRoom l.passes (length l.seat-iterator.rest.items)
