use Rattle.route_search.specs.Trails.{AreNodesBelow}
use Rattle.route_search.proofs.trails.nodes_below.Given as goal

abbrev pub invariant-loop-node : goal.invariant-loop-node
invariant-loop-node l = AreNodesBelow l.costs l.limit l.node l.nodes
