use Rattle.std.proofs.Common.{◌≡◌, ◌++◌, All, List, map, sym, subst, ◌∙◌}
use Rattle.std.proofs.lemmas.Result.{IfOk-weaker}
use Rattle.venue_types.specs.declared.point.Spot.{Spot}
use Rattle.plane_exact.specs.Plane.{IsInRange}
use Rattle.plane_exact.specs.Figure.{AllNearby, vertices}
use Rattle.plane_exact.specs.Scaled.{times, scaled}
use Rattle.plane_exact.specs.Sight.{at_spot}
use Rattle.unit_sight.specs.Rooms.{AreLengths, joined_places}
use Rattle.link_graph.specs.Making.{room_table}
use Rattle.link_graph.proofs.RoomSpots.{far_at, members_low, numbers_low, room_lengths, room_near, room_range, spots_are}
use Rattle.link_graph.proofs.RoomTables.{clear_table}
use Rattle.link_graph.proofs.trails.Ground.found.Goals as goal

pub spots_of-requires : goal.spots_of-requires
spots_of-requires c =
    numbers_low c.args.self.now.features.now c.args.self.now.settings.now c.args.self.now.nodes.now c.args.unit.now c.args.row.now c.requires.ground.nodes c.requires.row

pub of-requires-clause-near : goal.of-requires-clause-near
of-requires-clause-near c =
    let features = c.args.self.now.features.now in
    let settings = c.args.self.now.settings.now in
    let row = c.args.row.now in
    let spots = spots_are features settings c.args.self.now.nodes.now row c.deref.result.now c.in_ok-spots.spots.items c.requires.ground.nodes c.deref.ensures.value c.in_ok-spots.ensures in
    subst (λ (ss : List Spot). AllNearby (map (λ (s : Spot). times 2 (at_spot s)) ss ++ vertices (scaled 4 c.args.unit.now.shape))) (sym spots)
    (room_near features settings c.args.unit.now row c.requires.ground.sound c.requires.ground.close c.requires.unit (members_low features settings c.args.unit.now row c.requires.row))

pub of-requires-clause-range : goal.of-requires-clause-range
of-requires-clause-range c =
    let features = c.args.self.now.features.now in
    let settings = c.args.self.now.settings.now in
    let row = c.args.row.now in
    let spots = spots_are features settings c.args.self.now.nodes.now row c.deref.result.now c.in_ok-spots.spots.items c.requires.ground.nodes c.deref.ensures.value c.in_ok-spots.ensures in
    subst (λ (ss : List Spot). All IsInRange (map at_spot ss ++ vertices c.args.unit.now.shape)) (sym spots)
    (room_range features settings c.args.unit.now row c.requires.ground.sound c.requires.unit (members_low features settings c.args.unit.now row c.requires.row))

pub returns : goal.returns
returns c =
    let features = c.args.self.now.features.now in
    let settings = c.args.self.now.settings.now in
    let unit = c.args.unit.now in
    let row = c.args.row.now in
    let read = c.deref.result.now in
    let tolerance = c.wall_tolerance-tolerance.result in
    let far = far_at features settings row in
    let spots = spots_are features settings c.args.self.now.nodes.now row read c.in_ok-spots.spots.items c.requires.ground.nodes c.deref.ensures.value c.in_ok-spots.ensures in
    let lengths = subst (λ (ss : List Spot). AreLengths ss settings.kx settings.ky far) (sym spots)
    (room_lengths features settings row c.requires.ground.sound c.requires.ground.close (members_low features settings unit row c.requires.row)) in
    IfOk-weaker c.of.result (λ sights. sights ≡ joined_places unit.shape read tolerance far) (λ sights. sights ≡ room_table features settings unit)
    (λ sights told. told ∙ clear_table features settings unit row read tolerance c.requires.row spots c.wall_tolerance-tolerance.ensures.value c.requires.clear c.requires.still)
    (c.of.ensures far lengths)
