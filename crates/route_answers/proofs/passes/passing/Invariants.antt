use Rattle.std.proofs.Common.{◌≡◌, take, filter}
use Rattle.link_graph.specs.Graphs.{network}
use Rattle.route_answers.specs.Passing.{passes_node}
use Rattle.route_answers.proofs.passes.passing.Given as goal

abbrev pub invariant-loop-m : goal.invariant-loop-m
invariant-loop-m l = l.passed.items ≡ filter (passes_node (network l.graph) l.profile) (take l.m-index l.members)
