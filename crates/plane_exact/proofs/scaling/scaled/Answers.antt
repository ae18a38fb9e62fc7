use Rattle.std.proofs.Common.{List, All, subst}
use Rattle.venue_types.specs.declared.point.Point.{Point}
use Rattle.venue_types.specs.declared.point.Ring.{Ring}
use Rattle.plane_exact.specs.Plane.{IsInRange}
use Rattle.plane_exact.specs.Figure.{part_points, rings_of}
use Rattle.plane_exact.proofs.ListLemmas.{flat_map-flat_map}
use Rattle.plane_exact.proofs.ScalingLemmas.{all_item, has_item}
use Rattle.plane_exact.proofs.scaling.scaled.Goals as goal

pub scaled_part-requires-clause-range : goal.scaled_part-requires-clause-range
scaled_part-requires-clause-range c =
    let parts = c.args.shape.now.parts in
    let part = c.part-item.result in
    let has = has_item _ parts c.loop-part.part-index part c.as_slice-part-items.ensures c.loop-part-test.true c.part-item.is in
    all_item IsInRange part_points parts part has (subst (λ (points : List Point). All IsInRange points) (flat_map-flat_map (λ (ring : Ring). ring.points) rings_of parts) c.requires.range)
