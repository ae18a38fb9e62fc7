use Rattle.std.proofs.Common.{[], ◌∷◌, refl, ap, sym, ◌∙◌, subst, arith}
use Rattle.venue_types.specs.declared.point.Point.{Point}
use Rattle.plane_exact.specs.Figure.{AllNearby}
use Rattle.plane_exact.specs.Looks.{vertex_look}
use Rattle.plane_exact.proofs.LookLemmas.{vertex_near, look_at-vertex}
use Rattle.plane_exact.proofs.sights.look_at_point.Goals as goal

pub look_at_vertex-requires-clause-near : goal.look_at_vertex-requires-clause-near
look_at_vertex-requires-clause-near c = subst (λ (x : Point). AllNearby (c.args.way.from ∷ c.args.way.to ∷ x ∷ [])) (sym c.times.ensures) (vertex_near c.args.way (c.args.v ∷ []) c.args.v (0, omega arith, refl) c.requires)

pub returns : goal.returns
returns c = c.look_at_vertex.ensures ∙ ap (vertex_look c.args.way) c.times.ensures ∙ sym (look_at-vertex c.args.way c.args.v)
