use Rattle.std.proofs.Common.{◌-◌, ◌^◌}
use Rattle.venue_session.specs.Going.{moment, Awaits, IsGoing}
use Rattle.venue_session.proofs.whole_session.serve.Given as goal

abbrev pub invariant-reads : goal.invariant-reads
invariant-reads g l =
    IsGoing l.front (moment (g.H.Asks.facts l.fn.hall) (g.L.Stream.left l.fn.connection) (g.L.Stream.written l.fn.connection) (g.L.Stream.starts l.fn.connection) (g.L.Stream.faults l.fn.connection))
    (moment (g.H.Asks.facts l.hall) (g.L.Stream.left l.connection) (g.L.Stream.written l.connection) (g.L.Stream.starts l.connection) (g.L.Stream.faults l.connection)) l.taken l.input
    × Awaits l.input l.least

abbrev pub decreases-reads : goal.decreases-reads
decreases-reads g l = 2 ^ 40 - l.taken
