use Rattle.plane_trees.proofs.GroveLemmas.{grove_round, near_rings_at}
use Rattle.plane_trees.proofs.grove_borders.may_be_near_grove.Goals as goal

pub returns-in-len1-up : goal.returns-in-len1-up
returns-in-len1-up c near =
    let asked = c.args.asked.now in
    let round = grove_round c.args.grove.depth asked.origin c.args.grove.octagons.now _ c.args.grove.rings.now c.in-len1-up.len_at_least c.requires.sound in
    c.is_at.ensures (near_rings_at _ asked.place asked.origin asked.position c.args.grove.rings.now c.args.t c.requires.measured.place round near)
