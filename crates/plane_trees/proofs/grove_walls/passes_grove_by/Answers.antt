use Rattle.plane_exact.specs.Figure.{ring_points, ring_edges}
use Rattle.plane_trees.proofs.GroveLemmas.{grove_round}
use Rattle.plane_trees.proofs.WallLemmas.{free_apart, rings_ends}
use Rattle.plane_trees.proofs.grove_walls.passes_grove_by.Goals as goal

pub returns-in-len1-up : goal.returns-in-len1-up
returns-in-len1-up c apart =
    let way = c.args.way.now in
    let grove = c.args.grove in
    let round = grove_round grove.depth way.origin grove.octagons.now _ grove.rings.now c.in-len1-up.len_at_least c.requires.sound in
    free_apart way.octagon _ way.origin way.start way.end (ring_edges grove.rings.now) (ring_points grove.rings.now) way.tolerance c.requires.round round (rings_ends grove.rings.now) (c.is_apart.ensures apart)
