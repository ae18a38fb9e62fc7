use Rattle.std.proofs.Common.{◌≡◌, ◌∷◌, ◌↔◌, IsTrue, List, flat_map, ap, ◌∙◌, subst, sym}
use Rattle.venue_types.specs.declared.point.Point.{Point}
use Rattle.venue_types.specs.declared.point.Ring.{Ring}
use Rattle.plane_exact.specs.Figure.{AllNearby, Edge, edges, rings_of, part_points, part_edges, IsNear, IsNearSome, vertices, all_edges}
use Rattle.plane_exact.proofs.ListLemmas.{flat_map-flat_map}
use Rattle.plane_exact.proofs.borders.near.Goals as goal

pub near_parts-requires-clause-close : goal.near_parts-requires-clause-close
near_parts-requires-clause-close c =
    let P : List Point → Type 0 = λ points. AllNearby (c.args.p ∷ points) in
    let same : flat_map part_points c.as_slice.result.now ≡ vertices c.args.shape.now = ap (flat_map part_points) c.as_slice.ensures ∙ sym (flat_map-flat_map (λ (ring : Ring). ring.points) rings_of c.args.shape.now.parts) in
    subst P (sym same) c.requires.close

pub returns : goal.returns
unfolding IsNear
returns c =
    let P : List Edge → Type 0 = λ list. IsTrue c.near_parts.result ↔ IsNearSome c.args.p c.args.t list in
    let same : flat_map part_edges c.as_slice.result.now ≡ all_edges c.args.shape.now = ap (flat_map part_edges) c.as_slice.ensures ∙ sym (flat_map-flat_map (λ (ring : Ring). edges ring.points) rings_of c.args.shape.now.parts) in
    subst P same c.near_parts.ensures
