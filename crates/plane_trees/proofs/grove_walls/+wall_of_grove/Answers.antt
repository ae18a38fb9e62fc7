use Rattle.std.proofs.Common.{arith}
use Rattle.std.proofs.lemmas.Option.{IfSome_then}
use Rattle.plane_exact.specs.Figure.{ring_points, ring_edges}
use Rattle.plane_trees.proofs.GroveLemmas.{rings_edges, rings_points}
use Rattle.plane_trees.proofs.WallLemmas.{near_fewer, none_then, obstacle_more, free_joined, contained_front, contained_back, contained_cases}
use Rattle.plane_trees.proofs.grove_walls.+wall_of_grove.Goals as goal

pub wall_of_grove-requires : goal.wall_of_grove-requires
wall_of_grove-requires t c =
    let half = c.in-Some.ensures in
    let way = c.args.way.now in
    let whole = c.args.grove.rings.now in
    let front = c.in-Some.front.rings.now in
    let back = c.in-Some.back.rings.now in
    let within = contained_front (ring_points whole) (ring_points front) (ring_points back) (rings_points whole front back half.rings) in
    (omega (arith, half.front_depth), (near_fewer way.start way.end (ring_points front) (ring_points whole) within c.requires.near, (half.front_sound way.origin c.requires.sound, (c.requires.round, c.requires.tolerance))))

pub wall_of_grove-requires-in-None-wall_of_grove : goal.wall_of_grove-requires-in-None-wall_of_grove
wall_of_grove-requires-in-None-wall_of_grove t c =
    let half = c.in-Some.ensures in
    let way = c.args.way.now in
    let whole = c.args.grove.rings.now in
    let front = c.in-Some.front.rings.now in
    let back = c.in-Some.back.rings.now in
    let within = contained_back (ring_points whole) (ring_points front) (ring_points back) (rings_points whole front back half.rings) in
    (omega (arith, half.back_depth), (near_fewer way.start way.end (ring_points back) (ring_points whole) within c.requires.near, (half.back_sound way.origin c.requires.sound, (c.requires.round, c.requires.tolerance))))

pub returns-in-Some-wall_of_grove-clause-found : goal.returns-in-Some-wall_of_grove-clause-found
returns-in-Some-wall_of_grove-clause-found t c =
    let way = c.args.way.now in
    let whole = c.args.grove.rings.now in
    let front = c.in-Some.front.rings.now in
    let back = c.in-Some.back.rings.now in
    let parts = c.in-Some.ensures.rings in
    obstacle_more (ring_edges front) (ring_edges whole) (ring_points front) (ring_points whole) way.start way.end way.tolerance
    (contained_front (ring_edges whole) (ring_edges front) (ring_edges back) (rings_edges whole front back parts)) (contained_front (ring_points whole) (ring_points front) (ring_points back) (rings_points whole front back parts)) _ c.in-Some-wall_of_grove.ensures.found

pub returns-in-None-wall_of_grove-clause-found : goal.returns-in-None-wall_of_grove-clause-found
returns-in-None-wall_of_grove-clause-found t c =
    let way = c.args.way.now in
    let whole = c.args.grove.rings.now in
    let front = c.in-Some.front.rings.now in
    let back = c.in-Some.back.rings.now in
    let parts = c.in-Some.ensures.rings in
    let edges_within = contained_back (ring_edges whole) (ring_edges front) (ring_edges back) (rings_edges whole front back parts) in
    let points_within = contained_back (ring_points whole) (ring_points front) (ring_points back) (rings_points whole front back parts) in
    IfSome_then c.wall_of_grove-in-None-wall_of_grove.result c.wall_of_grove-in-None-wall_of_grove.ensures.found (λ wall h. obstacle_more (ring_edges back) (ring_edges whole) (ring_points back) (ring_points whole) way.start way.end way.tolerance edges_within points_within wall h)

pub returns-in-None-wall_of_grove-clause-none : goal.returns-in-None-wall_of_grove-clause-none
returns-in-None-wall_of_grove-clause-none t c =
    let way = c.args.way.now in
    let whole = c.args.grove.rings.now in
    let front = c.in-Some.front.rings.now in
    let back = c.in-Some.back.rings.now in
    let parts = c.in-Some.ensures.rings in
    let edges_split = contained_cases (ring_edges whole) (ring_edges front) (ring_edges back) (rings_edges whole front back parts) in
    let points_split = contained_cases (ring_points whole) (ring_points front) (ring_points back) (rings_points whole front back parts) in
    none_then c.wall_of_grove-in-None-wall_of_grove.result c.wall_of_grove-in-None-wall_of_grove.ensures.none (λ free. free_joined (ring_edges whole) (ring_edges front) (ring_edges back) (ring_points whole) (ring_points front) (ring_points back) way.start way.end way.tolerance edges_split points_split c.in-None-wall_of_grove.ensures.none free)
