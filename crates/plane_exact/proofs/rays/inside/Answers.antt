use Rattle.std.proofs.Common.{◌≡◌, ◌∷◌, ◌%◌, ◌↔◌, IsTrue, List, flat_map, ap, ◌∙◌, subst, sym}
use Rattle.venue_types.specs.declared.point.Point.{Point}
use Rattle.venue_types.specs.declared.point.Ring.{Ring}
use Rattle.plane_exact.specs.Figure.{AllNearby, Edge, edges, rings_of, part_points, part_edges, IsInside, crossings, vertices, all_edges}
use Rattle.plane_exact.proofs.ListLemmas.{flat_map-flat_map}
use Rattle.plane_exact.proofs.rays.inside.Goals as goal

pub is_odd_at_parts-requires : goal.is_odd_at_parts-requires
is_odd_at_parts-requires c =
    let P : List Point → Type 0 = λ points. AllNearby (c.args.p ∷ points) in
    let same : flat_map part_points c.as_slice.result.now ≡ vertices c.args.shape.now = ap (flat_map part_points) c.as_slice.ensures ∙ sym (flat_map-flat_map (λ (ring : Ring). ring.points) rings_of c.args.shape.now.parts) in
    subst P (sym same) c.requires

pub returns : goal.returns
unfolding IsInside
returns c =
    let P : List Edge → Type 0 = λ list. IsTrue c.is_odd_at_parts.result ↔ (crossings c.args.p list % 2 ≡ 1) in
    let same : flat_map part_edges c.as_slice.result.now ≡ all_edges c.args.shape.now = ap (flat_map part_edges) c.as_slice.ensures ∙ sym (flat_map-flat_map (λ (ring : Ring). edges ring.points) rings_of c.args.shape.now.parts) in
    subst P same c.is_odd_at_parts.ensures
