use Rattle.std.proofs.Common.{◌≡◌, ◌≤◌, length, take, filter}
use Rattle.link_graph.specs.Graphs.{network}
use Rattle.route_answers.specs.Passing.{passes_node}
use Rattle.route_answers.proofs.counts.passing_count.Given as goal

abbrev pub invariant-loop-m : goal.invariant-loop-m
invariant-loop-m l = record {
  number : l.count ≡ length (filter (passes_node (network l.graph) l.profile) (take l.m-index l.members));
  few : l.count ≤ l.m-index;
}
