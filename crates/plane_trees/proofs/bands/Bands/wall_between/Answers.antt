use Rattle.std.proofs.Common.{◌≡◌, List, Contains, ap, ◌∙◌, subst}
use Rattle.venue_types.specs.declared.point.Ring.{Ring}
use Rattle.venue_types.specs.declared.point.Shape.{Shape}
use Rattle.plane_exact.specs.Figure.{rings, vertices, ring_points}
use Rattle.plane_trees.specs.declared.groves.Over.{Over}
use Rattle.plane_trees.specs.Groves.{IsOver}
use Rattle.plane_trees.proofs.RunLemmas.{IfSome-at}
use Rattle.plane_trees.proofs.WallLemmas.{near_origin}
use Rattle.plane_trees.proofs.bands.Bands.wall_between.Goals as goal

pub octagon_of-requires : goal.octagon_of-requires
octagon_of-requires c =
    let known = IfSome-at c.self.inside.over c.in-Some.over (λ (over : Over). IsOver c.self.inside.banded.items over) c.in-Some.is c.self.invariant.1 in
    let whole : c.self.inside.banded.items ≡ rings c.args.self.now = c.self.invariant.0 ∙ ap (λ (shape : Shape). rings shape) c.self.view_is in
    near_origin c.args.a c.args.b c.in-Some.over.origin (vertices c.args.self.now) (subst (λ (list : List Ring). Contains (ring_points list) c.in-Some.over.origin) whole known.origin) c.requires.near
