use Rattle.std.proofs.Common.{arith}
use Rattle.route_search.proofs.LastPlaces.{node_within, place_within, known_at}
use Rattle.route_search.proofs.lasts.Lasts.get.Goals as goal

pub index-place-requires : goal.index-place-requires
index-place-requires c =
    let inside = c.self.inside in
    omega (arith, node_within inside.found.items inside.places.items c.args.self.now c.args.node c.self.view_is c.requires, inside.places.ok.0)

pub index-requires : goal.index-requires
index-requires c =
    let inside = c.self.inside in
    let low = place_within inside.found.items inside.places.items c.args.self.now c.args.node c.index-place.result.now c.self.invariant c.self.view_is c.requires c.index-place.ensures in
    omega (arith, low, inside.found.ok.0)

pub returns : goal.returns
returns c =
    let inside = c.self.inside in
    known_at inside.found.items inside.places.items c.args.self.now c.args.node c.index-place.result.now c.index.result.now c.self.invariant c.self.view_is c.requires c.index-place.ensures c.index.ensures
