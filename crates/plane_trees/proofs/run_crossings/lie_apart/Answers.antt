use Rattle.plane_trees.proofs.TreeLemmas.{first_round}
use Rattle.plane_trees.proofs.RunLemmas.{octagons_apart}
use Rattle.plane_trees.proofs.run_crossings.lie_apart.Goals as goal

pub returns-in-len1-up-octagons : goal.returns-in-len1-up-octagons
returns-in-len1-up-octagons c apart origin sound other_sound =
    let one = c.args.one in
    let other = c.args.other in
    let round = first_round one.depth origin one.octagons.now _ one.start one.rest.now c.in-len1-up.len_at_least sound in
    let round_other = first_round other.depth origin other.octagons.now _ other.start other.rest.now c.in-len1-up-octagons.len_at_least other_sound in
    octagons_apart _ _ origin one.start other.start one.rest.now other.rest.now round round_other (c.is_apart.ensures apart)
