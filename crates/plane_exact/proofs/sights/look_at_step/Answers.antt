use Rattle.std.proofs.Common.{◌≡◌, [], ◌∷◌, refl, ap, ap₂, sym, ◌∙◌, subst, arith}
use mathlib.Core.Path.{subst₂}
use Rattle.venue_types.specs.declared.point.Point.{Point}
use Rattle.plane_exact.specs.Figure.{AllNearby, Edge}
use Rattle.plane_exact.specs.Looks.{edge_look, vertex_look, joined_look, look_at}
use Rattle.plane_exact.proofs.LookLemmas.{vertex_near, look_at-edge, look_at-vertex, look_at-append}
use Rattle.plane_exact.proofs.sights.look_at_step.Goals as goal

pub look_at_edge-requires-clause-near : goal.look_at_edge-requires-clause-near
look_at_edge-requires-clause-near c = subst₂ (λ (p q : Point). AllNearby (c.args.way.middle ∷ c.args.way.from ∷ c.args.way.to ∷ p ∷ q ∷ [])) (sym c.times.ensures) (sym c.times-end.ensures) (c.requires.near c.args.a c.args.b (0, omega arith, refl) (1, omega arith, refl))

pub look_at_vertex-requires-clause-near : goal.look_at_vertex-requires-clause-near
look_at_vertex-requires-clause-near c = subst (λ (x : Point). AllNearby (c.args.way.from ∷ c.args.way.to ∷ x ∷ [])) (sym c.times-end.ensures) (vertex_near c.args.way (c.args.a ∷ c.args.b ∷ []) c.args.b (1, omega arith, refl) c.requires)

pub returns : goal.returns
returns c =
    let edge : Edge = record { from = c.args.a; to = c.args.b } in
    let of_edge : c.look_at_edge.result ≡ look_at c.args.way (edge ∷ []) [] = c.look_at_edge.ensures ∙ ap₂ (λ (p q : Point). edge_look c.args.way (record { from = p; to = q })) c.times.ensures c.times-end.ensures ∙ sym (look_at-edge c.args.way edge) in
    let of_vertex : c.look_at_vertex.result ≡ look_at c.args.way [] (c.args.b ∷ []) = c.look_at_vertex.ensures ∙ ap (vertex_look c.args.way) c.times-end.ensures ∙ sym (look_at-vertex c.args.way c.args.b) in
    c.joined.ensures ∙ ap₂ joined_look of_edge of_vertex ∙ sym (look_at-append c.args.way (edge ∷ []) [] [] (c.args.b ∷ []))
