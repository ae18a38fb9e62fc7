use Rattle.std.proofs.Common.{◌%◌, ap}
use Rattle.plane_trees.proofs.GroveLemmas.{grove_round, missed_rings, even_before}
use Rattle.plane_trees.proofs.grove_rays.is_even_at_octagon.Goals as goal

pub returns-in-Missed : goal.returns-in-Missed
returns-in-Missed c held =
    let asked = c.args.asked.now in
    let round = grove_round c.args.grove.depth asked.origin c.args.grove.octagons.now _ c.args.grove.rings.now c.in-len1-up.len_at_least c.requires.sound in
    ap (λ n. n % 2) (missed_rings _ asked.place asked.origin asked.position c.args.grove.rings.now c.requires.measured.place round c.in-Missed.ensures)

pub returns-in-Before : goal.returns-in-Before
returns-in-Before c closed =
    let asked = c.args.asked.now in
    let round = grove_round c.args.grove.depth asked.origin c.args.grove.octagons.now _ c.args.grove.rings.now c.in-len1-up.len_at_least c.requires.sound in
    even_before _ asked.place asked.origin asked.position c.args.grove.rings.now c.requires.measured.place round c.in-Before.ensures (c.requires.closed closed)
