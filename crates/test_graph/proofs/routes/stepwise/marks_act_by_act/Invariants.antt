use Rattle.link_graph.specs.Graphs.{network}
use Rattle.link_graph.specs.Marking.{AreMarksOf}
use Rattle.test_graph.proofs.routes.stepwise.marks_act_by_act.Given as goal

abbrev pub invariant-loop-act : goal.invariant-loop-act
invariant-loop-act g l = AreMarksOf (network l.graph) l.marks
