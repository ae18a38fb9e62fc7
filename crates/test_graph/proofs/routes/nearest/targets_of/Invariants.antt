use Rattle.test_graph.proofs.Rising.{AreBelow}
use Rattle.test_graph.proofs.routes.nearest.targets_of.Given as goal

abbrev pub invariant-loop-n : goal.invariant-loop-n
invariant-loop-n l = AreBelow l.n l.targets
