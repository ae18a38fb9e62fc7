use Rattle.std.proofs.Common.{List, ap, ◌∙◌, subst}
use Rattle.venue_types.specs.declared.point.Point.{Point}
use Rattle.venue_types.specs.declared.point.Ring.{Ring}
use Rattle.plane_trees.specs.Octagons.{IsRound}
use Rattle.plane_exact.proofs.ListLemmas.{read_whole}
use Rattle.plane_trees.proofs.ring_bands.RingBands.octagon.Goals as goal

pub returns-in-len1-up : goal.returns-in-len1-up
returns-in-len1-up c =
    let whole = read_whole c.as_slice.result.now _ c.in-len1-up.len_at_least ∙ c.as_slice.ensures ∙ ap (λ (ring : Ring). ring.points) c.self.view_is in
    subst (λ (xs : List Point). IsRound c.octagon_of.result c.args.origin xs) whole c.octagon_of.ensures
