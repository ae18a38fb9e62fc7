use Rattle.plane_trees.proofs.TreeLemmas.{first_round}
use Rattle.plane_trees.proofs.SightLemmas.{told}
use Rattle.plane_trees.proofs.run_rays.sight.Goals as goal

pub returns-in-len1-up : goal.returns-in-len1-up
returns-in-len1-up c =
    let round = first_round c.args.run.depth c.args.asked.now.origin c.args.run.octagons.now _ c.args.run.start c.args.run.rest.now c.in-len1-up.len_at_least c.requires.sound in
    told _ c.args.asked.now.place c.args.asked.now.origin c.args.asked.now.position c.args.run.start c.args.run.rest.now c.sight.result c.requires.measured.place round c.sight.ensures
