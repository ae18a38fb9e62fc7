use Rattle.std.proofs.Common.{List, ◌++◌, flat_map, ap, subst}
use Rattle.venue_types.specs.declared.point.Point.{Point}
use Rattle.plane_exact.specs.Figure.{AllNearby, part_points}
use Rattle.plane_exact.specs.Corners.{part_corners}
use Rattle.plane_exact.proofs.ListLemmas.{added_step, read_item}
use Rattle.plane_exact.proofs.NearbyLemmas.{plain_item, plain_step}
use Rattle.plane_exact.proofs.CornerCounts.{vertices_of_parts}
use Rattle.plane_exact.proofs.turns.corners.Goals as goal

pub loop-part-init : goal.loop-part-init
loop-part-init c =
    record {
      near = subst (λ (points : List Point). AllNearby points) (vertices_of_parts c.args.shape.now) c.requires;
      whole = ap (λ (list : List Point). list ++ flat_map part_corners c.args.shape.now.parts) c.new-list.ensures.items;
    }

pub add_part-requires : goal.add_part-requires
add_part-requires c =
    let within = rw c.as_slice-part-items.ensures at c.loop-part-test.true in
    plain_item part_points c.args.shape.now.parts c.loop-part.part-index c.part-item.result _ within (read_item _ _ _ _ c.as_slice-part-items.ensures c.part-item.is) c.loop-part.invariant.near

pub loop-part-preserved : goal.loop-part-preserved
loop-part-preserved c =
    let within = rw c.as_slice-part-items.ensures at c.loop-part-test.true in
    let at = read_item _ c.args.shape.now.parts c.loop-part.part-index c.part-item.result c.as_slice-part-items.ensures c.part-item.is in
    record {
      near = plain_step part_points c.args.shape.now.parts c.loop-part.part-index _ _ within at c.loop-part.invariant.near;
      whole = added_step part_corners _ _ _ c.args.shape.now.parts c.loop-part.part-index _ _ within at c.in_ok-add_part.ensures c.loop-part.invariant.whole;
    }
