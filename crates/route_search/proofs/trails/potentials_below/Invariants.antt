use Rattle.route_search.specs.Trails.{ArePotentialsBelow}
use Rattle.route_search.proofs.trails.potentials_below.Given as goal

abbrev pub invariant-loop-node : goal.invariant-loop-node
invariant-loop-node l = ArePotentialsBelow l.costs l.limit l.node l.listed
