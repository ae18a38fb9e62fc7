use Rattle.std.proofs.Common.{ℕ, ◌+◌, ◌≤◌}
use Rattle.route_search.specs.Scans.{CanPass, node_count, out_count_of}
use Rattle.route_search.specs.States.{IsBetween, IsFrom, open_sum}
use Rattle.route_search.specs.Tallies.{HasSettledEnds}
use Rattle.route_search.specs.Waiting.{waiting}
use Rattle.route_search.proofs.growth.grow.Given as goal

abbrev pub invariant-nodes : goal.invariant-nodes
invariant-nodes g l = record {
  between : IsBetween (CanPass l.ways) (node_count l.ways.graph.now) l.state;
  ends : HasSettledEnds (g.E.Ends.ends l.ends) l.count l.tally l.state;
  roots : (from : ℕ) → IsFrom from l.initial.state → IsFrom from l.state;
  steps : l.steps + open_sum (out_count_of l.ways.graph.now) 0 l.state.settled.items ≤ l.initial.steps + open_sum (out_count_of l.ways.graph.now) 0 l.initial.state.settled.items;
}

abbrev pub decreases-nodes : goal.decreases-nodes
decreases-nodes g l = open_sum (out_count_of l.ways.graph.now) 0 l.state.settled.items + waiting l.state.frontier
