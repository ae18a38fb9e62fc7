use Rattle.std.proofs.Common.{arith, ◌≡◌, ◌+◌, List, length}
use Rattle.shared_hall.specs.Facts.{Facts}
use Rattle.shared_hall.proofs.Passes.{no_parts}
use Rattle.test_journal.proofs.workers.leave_all.Goals as goal

pub returns-clause-parts : goal.returns-clause-parts
returns-clause-parts g c =
    let ys : List Facts = c.loop-seat.seats.items in
    let none : length ys ≡ 0 = omega (arith, c.in_default.ensures.cases.0, c.loop-seat.seats.ok.0) in
    omega (arith, c.loop-seat.invariant.1, no_parts ys none)
