use Rattle.link_graph.specs.Graphs.{network}
use Rattle.link_graph.specs.Marking.{AreMarksOf}
use Rattle.test_graph.proofs.routes.stepwise.from_scratch.Given as goal

abbrev pub invariant-loop-kept : goal.invariant-loop-kept
invariant-loop-kept g l = AreMarksOf (network l.graph) l.marks
