use Rattle.std.proofs.Common.{take}
use Rattle.venue_history.specs.Tours.{ArePicked}
use Rattle.venue_state.proofs.tour_legs.picked.Given as goal

abbrev pub invariant-loop-k : goal.invariant-loop-k
invariant-loop-k l = ArePicked l.stops (take l.k-index l.order) l.ids
