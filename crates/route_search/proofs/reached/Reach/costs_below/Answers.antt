use Rattle.std.proofs.Common.{arith}
use Rattle.route_search.proofs.Looked.{if_ok}
use Rattle.route_search.proofs.ReachCalls.{call_below, call_below_nodes}
use Rattle.route_search.proofs.reached.Reach.costs_below.Goals as goal

pub returns-clause-costs : goal.returns-clause-costs
returns-clause-costs c = if_ok c.potentials_below.result (λ listed are. call_below c.args.self.now c.deref.result.now c.args.limit listed c.deref.ensures.value c.requires (omega (arith, c.ranges.limit)) are) c.potentials_below.ensures

pub returns-clause-nodes : goal.returns-clause-nodes
returns-clause-nodes c = if_ok c.potentials_below.result (λ listed are. call_below_nodes c.args.self.now c.deref.result.now c.args.limit listed c.deref.ensures.value are) c.potentials_below.ensures
