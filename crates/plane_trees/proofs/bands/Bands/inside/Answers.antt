use Rattle.std.proofs.Common.{◌≡◌, ◌%◌, ◌↔◌, IsTrue, List, Contains, ap, ◌∙◌, subst}
use mathlib.Core.Path.{subst₂}
use Rattle.venue_types.specs.declared.point.Point.{Point}
use Rattle.venue_types.specs.declared.point.Ring.{Ring}
use Rattle.venue_types.specs.declared.point.Shape.{Shape}
use Rattle.plane_exact.specs.Figure.{rings, vertices, ring_points, ring_edges, crossings, IsInside}
use Rattle.plane_trees.specs.declared.groves.Over.{Over}
use Rattle.plane_trees.specs.Groves.{IsOver}
use Rattle.plane_exact.proofs.NearbyLemmas.{origin_close}
use Rattle.plane_trees.proofs.RunLemmas.{IfSome-at}
use Rattle.plane_trees.proofs.bands.Bands.inside.Goals as goal

pub of-requires : goal.of-requires
of-requires c =
    let known = IfSome-at c.self.inside.over c.in-Some.over (λ (over : Over). IsOver c.self.inside.banded.items over) c.in-Some.is c.self.invariant.1 in
    let whole : c.self.inside.banded.items ≡ rings c.args.self.now = c.self.invariant.0 ∙ ap (λ (shape : Shape). rings shape) c.self.view_is in
    origin_close c.args.p c.in-Some.over.origin (vertices c.args.self.now) (subst (λ (list : List Ring). Contains (ring_points list) c.in-Some.over.origin) whole known.origin) c.requires

pub returns-in-None : goal.returns-in-None
unfolding IsInside
returns-in-None c =
    let whole : c.as_slice.result.now ≡ rings c.args.self.now = c.as_slice.ensures.value ∙ c.self.invariant.0 ∙ ap (λ (shape : Shape). rings shape) c.self.view_is in
    subst (λ (list : List Ring). IsTrue c.is_odd_at_bands.result ↔ (crossings c.args.p (ring_edges list) % 2 ≡ 1)) whole c.is_odd_at_bands.ensures

pub returns-in-Some : goal.returns-in-Some
unfolding IsInside
returns-in-Some c =
    let whole : c.as_slice-in-Some.result.now ≡ rings c.args.self.now = c.as_slice-in-Some.ensures.value ∙ c.self.invariant.0 ∙ ap (λ (shape : Shape). rings shape) c.self.view_is in
    subst₂ (λ (q : Point) (list : List Ring). IsTrue c.is_odd_at_grove.result ↔ (crossings q (ring_edges list) % 2 ≡ 1)) c.of.ensures.position whole c.is_odd_at_grove.ensures
