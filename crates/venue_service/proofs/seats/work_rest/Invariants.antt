use Rattle.shared_hall.specs.Facts.{IsSameHall}
use Rattle.venue_service.proofs.seats.work_rest.Given as goal

abbrev pub invariant-loop-alloc : goal.invariant-loop-alloc
invariant-loop-alloc g l = IsSameHall l.initial.seat l.seat

abbrev pub decreases-loop-alloc : goal.decreases-loop-alloc
decreases-loop-alloc g l = l.desk.left
