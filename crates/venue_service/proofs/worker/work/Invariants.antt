-- A worker serves at one hall.
use Rattle.shared_hall.specs.Facts.{IsSameHall}
use Rattle.venue_service.proofs.worker.work.Given as goal

abbrev pub invariant-loop : goal.invariant-loop
invariant-loop g l = IsSameHall l.initial.seat l.seat
