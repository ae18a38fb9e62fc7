use Rattle.std.proofs.Common.{◌≡◌, ◌≤◌, length, take, filter}
use Rattle.link_graph.specs.Graphs.{network}
use Rattle.route_answers.specs.Passing.{passes_link}
use Rattle.route_answers.specs.Placing.{KnowsFirsts}
use Rattle.route_answers.proofs.firsts.first_links.Given as goal

abbrev pub invariant-loop-link : goal.invariant-loop-link
invariant-loop-link l = record {
  firsts : KnowsFirsts (network l.graph) l.profile (take l.link-index l.links) l.firsts;
  number : l.count ≡ length (filter (passes_link (network l.graph) l.profile) (take l.link-index l.links));
  few : l.count ≤ l.link-index;
}
