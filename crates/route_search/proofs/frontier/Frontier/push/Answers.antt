use Rattle.route_search.proofs.Heaps.{pushed}
use Rattle.route_search.proofs.frontier.Frontier.push.Goals as goal

pub returns : goal.returns
returns c = pushed c.args.self.now _ c.args.cost c.args.node c.in_ok-push.ensures.len c.in_ok-push.ensures.permutation
