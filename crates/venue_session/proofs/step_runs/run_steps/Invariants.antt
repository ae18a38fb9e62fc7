use Rattle.std.proofs.Common.{ℕ, length}
use Rattle.venue_session.specs.Going.{Moment, moment, IsGoing}
use Rattle.venue_session.proofs.step_runs.run_steps.Given as goal

abbrev pub invariant-steps : goal.invariant-steps
invariant-steps g l = (first : Moment) (taken : ℕ)
    → IsGoing l.front first (moment (g.H.Asks.facts l.fn.hall) (g.L.Stream.left l.fn.connection) (g.L.Stream.written l.fn.connection) (g.L.Stream.starts l.fn.connection) (g.L.Stream.faults l.fn.connection)) taken l.fn.input
    → IsGoing l.front first (moment (g.H.Asks.facts l.hall) (g.L.Stream.left l.connection) (g.L.Stream.written l.connection) (g.L.Stream.starts l.connection) (g.L.Stream.faults l.connection)) taken l.input

abbrev pub decreases-steps : goal.decreases-steps
decreases-steps g l = length l.input
