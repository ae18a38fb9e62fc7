use Rattle.std.proofs.Common.{◌≡◌, ◌≤◌, length, take, filter}
use Rattle.link_graph.specs.Graphs.{network}
use Rattle.route_answers.specs.Passing.{passes_link}
use Rattle.route_answers.proofs.counts.link_count.Given as goal

abbrev pub invariant-loop-link : goal.invariant-loop-link
invariant-loop-link l = record {
  number : l.count ≡ length (filter (passes_link (network l.graph) l.profile) (take l.link-index l.links));
  few : l.count ≤ l.link-index;
}
