use Rattle.plane_trees.specs.Trees.{run_points, run_edges}
use Rattle.plane_trees.proofs.TreeLemmas.{first_round}
use Rattle.plane_trees.proofs.WallLemmas.{free_apart, line_ends}
use Rattle.plane_trees.proofs.run_walls.passes_by.Goals as goal

pub returns-in-len1-up : goal.returns-in-len1-up
returns-in-len1-up c apart =
    let way = c.args.way.now in
    let run = c.args.run in
    let round = first_round run.depth way.origin run.octagons.now _ run.start run.rest.now c.in-len1-up.len_at_least c.requires.sound in
    free_apart way.octagon _ way.origin way.start way.end (run_edges run) (run_points run) way.tolerance c.requires.round round (line_ends run.start run.rest.now) (c.is_apart.ensures apart)
