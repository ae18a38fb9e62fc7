-- What can be passed over the graph is what can be used at the version.
use Rattle.std.proofs.Common.{List, length, subst}
use Rattle.venue_types.specs.declared.link.Node.{Node}
use Rattle.route_search.specs.Graphs.{network}
use Rattle.route_search.specs.Marking.{marked}
use Rattle.route_search.specs.Networks.{IsPassable}
use Rattle.nearest_place.specs.Near.{IsNear}
use Rattle.venue_history.specs.Ways.{Usable}
use Rattle.venue_state.proofs.Nearing.{near_over}
use Rattle.venue_state.proofs.Routes.{version_links}
use Rattle.venue_state.proofs.nearest.searched.Goals as goal

pub returns : goal.returns
returns g c =
    let v = c.args.board.now in
    let given = network c.graph.result.now in
    let marks = c.marks.result.now in
    let number = c.args.traveller.now.number in
    let profile = c.args.traveller.now.profile.now in
    let P = IsPassable given (marked given marks number) profile in
    let Q = Usable v number profile in
    let links = version_links c.passable_law.ensures v given marks number profile c.graph.ensures c.marks.ensures.closed in
    let found = near_over P Q (λ link. (links link).0) (λ link. (links link).1) (length given.nodes) c.args.a c.args.candidates.now c.args.limit c.in_ok-near.near c.in_ok-near.ensures.near in
    subst (λ (nodes : List Node). IsNear Q (length nodes) c.args.a c.args.candidates.now c.args.limit c.in_ok-near.near) c.graph.ensures.nodes_are found
