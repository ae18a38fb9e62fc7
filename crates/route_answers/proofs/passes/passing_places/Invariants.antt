use Rattle.link_graph.specs.Graphs.{network}
use Rattle.route_answers.specs.Passing.{AreMarked, passes_node}
use Rattle.route_answers.proofs.passes.passing_places.Given as goal

abbrev pub invariant-loop-i : goal.invariant-loop-i
invariant-loop-i l = AreMarked (passes_node (network l.graph) l.profile) l.members l.i l.size l.mask
