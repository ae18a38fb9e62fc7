use Rattle.plane_trees.proofs.TreeLemmas.{first_round}
use Rattle.plane_trees.proofs.RunLemmas.{near_at_band}
use Rattle.plane_trees.proofs.run_borders.may_be_near.Goals as goal

pub returns-in-len1-up : goal.returns-in-len1-up
returns-in-len1-up c near =
    let asked = c.args.asked.now in
    let round = first_round c.args.run.depth asked.origin c.args.run.octagons.now _ c.args.run.start c.args.run.rest.now c.in-len1-up.len_at_least c.requires.sound in
    c.is_at.ensures (near_at_band _ asked.place asked.origin asked.position c.args.run.start c.args.run.rest.now c.args.t c.requires.measured.place round near)
