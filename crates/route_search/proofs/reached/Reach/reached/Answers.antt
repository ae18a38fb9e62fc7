use Rattle.route_search.proofs.Looked.{if_ok}
use Rattle.route_search.proofs.ReachCalls.{call_reached, call_reached_nodes}
use Rattle.route_search.proofs.reached.Reach.reached.Goals as goal

pub returns-clause-exact : goal.returns-clause-exact
returns-clause-exact c = if_ok c.nodes_below.result (λ reached are. call_reached c.args.self.now c.deref.result.now reached c.deref.ensures.value c.requires are) c.nodes_below.ensures

pub returns-clause-nodes : goal.returns-clause-nodes
returns-clause-nodes c = if_ok c.nodes_below.result (λ reached are. call_reached_nodes c.args.self.now c.deref.result.now reached c.deref.ensures.value are) c.nodes_below.ensures
