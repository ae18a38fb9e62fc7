use Rattle.link_graph.specs.Graphs.{network}
use Rattle.link_graph.specs.Marking.{AreMarksOf}
use Rattle.test_graph.proofs.routes.searches.marks_of.Given as goal

abbrev pub invariant-loop-tail : goal.invariant-loop-tail
invariant-loop-tail g l = AreMarksOf (network l.graph) l.marks
