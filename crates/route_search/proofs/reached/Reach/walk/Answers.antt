use Rattle.std.proofs.Common.{refl}
use Rattle.link_graph.specs.Networks.{IsPassable}
use Rattle.route_search.specs.Reaches.{bound_of, cost_of}
use Rattle.route_search.proofs.Looked.{if_ok}
use Rattle.route_search.proofs.ReachCalls.{call_back, call_trail, call_walk, call_few}
use Rattle.route_search.proofs.reached.Reach.walk.Goals as goal

pub walk_back-requires : goal.walk_back-requires
walk_back-requires c = call_back c.args.self.now c.args.self.now.lasts c.args.node refl c.requires

pub returns-clause-least : goal.returns-clause-least
returns-clause-least c = if_ok c.walk_back.result (λ walk trail network closed profile from cost over some.
    (let (leads, sum) = call_walk c.args.self.now (IsPassable network closed profile) c.args.self.now.lasts from c.args.node cost walk refl over some
    (call_trail c.args.self.now c.args.self.now.lasts c.args.node walk refl c.requires trail) in
    c.reach_law.ensures.least (network, closed, profile) from c.args.node cost (bound_of c.args.self.now) (cost_of c.args.self.now) walk over.knows some leads sum)) c.walk_back.ensures

pub returns-clause-few : goal.returns-clause-few
returns-clause-few c = if_ok c.walk_back.result (λ walk trail. call_few c.args.self.now c.args.self.now.lasts c.args.node walk refl c.requires
    (call_trail c.args.self.now c.args.self.now.lasts c.args.node walk refl c.requires trail)) c.walk_back.ensures
