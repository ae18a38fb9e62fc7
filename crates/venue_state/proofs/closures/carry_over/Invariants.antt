use Rattle.std.proofs.Common.{◌≡◌, ◌++◌, drop, take, map}
use Rattle.route_search.specs.Graphs.{network}
use Rattle.venue_history.specs.Closed.{feature_of, set_in}
use Rattle.venue_history.specs.Versions.{closings}
use Rattle.venue_state.specs.Boards.{closed_by}
use Rattle.venue_state.specs.Tallies.{IsTally, gone_from}
use Rattle.venue_state.proofs.closures.carry_over.Given as goal

-- of those that were regarded, the ones that can be closed are marked, each with its set, and the others dropped
abbrev pub invariant-loop-it : goal.invariant-loop-it
invariant-loop-it l = record {
  tallied : IsTally (network l.graph).closables l.tally;
  marked : closed_by l.tally.marks (network l.graph).closables ≡ closings (set_in (take l.it-index l.closed)) (network l.graph).closables;
  dropped : l.dropped ++ gone_from (network l.graph).closables (map feature_of (drop l.it-index l.closed)) ≡ gone_from (network l.graph).closables (map feature_of l.closed);
}
