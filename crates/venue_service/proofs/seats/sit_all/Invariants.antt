use Rattle.std.proofs.Common.{◌≡◌, ◌++◌, length}
use Rattle.venue_types.specs.Room.{HasRoom}
use Rattle.venue_service.proofs.seats.sit_all.Given as goal

abbrev pub invariant-loop-pass : goal.invariant-loop-pass
invariant-loop-pass g l =
    (goal.iterator-loop-pass g).can_next l.pass-iterator
    × (goal.iterator-loop-pass g).is_finite l.pass-iterator
    × (l.seats.items ++ l.pass-iterator.rest.items ≡ l.fn.passes.items)
    × HasRoom l.seats (length l.pass-iterator.rest.items)
