use Rattle.std.proofs.Common.{◌≡◌, List, ◌∙◌, ap, flat_map, sym}
use Rattle.venue_types.specs.declared.point.Part.{Part}
use Rattle.venue_types.specs.declared.point.Ring.{Ring}
use Rattle.venue_types.specs.declared.point.Shape.{Shape}
use Rattle.plane_exact.specs.Figure.{part_points, rings_of, vertices}
use Rattle.plane_exact.proofs.ListLemmas.{flat_map-flat_map}
use Rattle.venue_nodes.specs.declared.spots.Bounds.{Bounds}
use Rattle.venue_nodes.specs.Bounds.{with_all}
use Rattle.venue_nodes.proofs.Boxes.{none_yet, empty_middle, box_inside, box_middle_is, kept_sum_fits}
use Rattle.venue_nodes.proofs.spots.shape_middle.Goals as goal

gathered : (shape : Shape) (parts : List Part) (b : Bounds) → parts ≡ shape.parts → b ≡ with_all none_yet (flat_map part_points parts) → b ≡ with_all none_yet (vertices shape)
gathered shape parts b same is = is ∙ ap (λ (list : List Part). with_all none_yet (flat_map part_points list)) same ∙ ap (with_all none_yet) (sym (flat_map-flat_map (λ (ring : Ring). ring.points) rings_of shape.parts))

pub returns-then-bounds : goal.returns-then-bounds
returns-then-bounds c = empty_middle (vertices c.args.shape.now) c.with_parts-bounds.result c.requires (gathered c.args.shape.now _ _ c.as_slice.ensures c.with_parts-bounds.ensures) c.if-bounds.true

pub overflow_add-result : goal.overflow_add-result
overflow_add-result c =
    let inside = box_inside (vertices c.args.shape.now) c.with_parts-bounds.result c.requires (gathered c.args.shape.now _ _ c.as_slice.ensures c.with_parts-bounds.ensures) c.if-bounds.false in
    kept_sum_fits _ _ inside.west inside.east

pub overflow_add-result-else-bounds : goal.overflow_add-result-else-bounds
overflow_add-result-else-bounds c =
    let inside = box_inside (vertices c.args.shape.now) c.with_parts-bounds.result c.requires (gathered c.args.shape.now _ _ c.as_slice.ensures c.with_parts-bounds.ensures) c.if-bounds.false in
    kept_sum_fits _ _ inside.south inside.north

pub returns-else-bounds : goal.returns-else-bounds
returns-else-bounds c = box_middle_is (vertices c.args.shape.now) c.with_parts-bounds.result c.requires (gathered c.args.shape.now _ _ c.as_slice.ensures c.with_parts-bounds.ensures) c.if-bounds.false
