use Rattle.std.proofs.Common.{List, refl, subst, arith}
use Rattle.venue_types.specs.declared.point.Point.{Point}
use Rattle.plane_exact.specs.Figure.{AllNearby, part_points}
use Rattle.plane_exact.specs.Corners.{part_corners}
use Rattle.plane_exact.proofs.ListLemmas.{count_none, count_step, count_one, read_item}
use Rattle.plane_exact.proofs.NearbyLemmas.{plain_item, plain_step}
use Rattle.plane_exact.proofs.CornerCounts.{vertices_of_parts, corners_few}
use Rattle.plane_exact.proofs.corner_counts.corner_count.Goals as goal

pub loop-part-init : goal.loop-part-init
loop-part-init c = record {
  near = subst (λ (points : List Point). AllNearby points) (vertices_of_parts c.args.shape.now) c.requires.near;
  whole = count_none _ _ refl;
}

pub part_count-count-requires-clause-near : goal.part_count-count-requires-clause-near
part_count-count-requires-clause-near c =
    let within = rw c.as_slice-part-items.ensures at c.loop-part-test.true in
    plain_item part_points c.args.shape.now.parts c.loop-part.part-index c.part-item.result _ within (read_item _ _ _ _ c.as_slice-part-items.ensures c.part-item.is) c.loop-part.invariant.near

pub part_count-count-requires-clause-few : goal.part_count-count-requires-clause-few
part_count-count-requires-clause-few c =
    let within = rw c.as_slice-part-items.ensures at c.loop-part-test.true in
    let at = read_item _ c.args.shape.now.parts c.loop-part.part-index c.part-item.result c.as_slice-part-items.ensures c.part-item.is in
    let fits = count_one part_corners c.loop-part.count _ c.args.shape.now.parts c.loop-part.part-index _ _ within at c.loop-part.invariant.whole in
    omega (arith, fits, corners_few c.args.shape.now, c.requires.few)

pub overflow_add-count : goal.overflow_add-count
overflow_add-count c =
    let within = rw c.as_slice-part-items.ensures at c.loop-part-test.true in
    let at = read_item _ c.args.shape.now.parts c.loop-part.part-index c.part-item.result c.as_slice-part-items.ensures c.part-item.is in
    let fits = count_one part_corners c.loop-part.count _ c.args.shape.now.parts c.loop-part.part-index _ _ within at c.loop-part.invariant.whole in
    omega (arith, fits, corners_few c.args.shape.now, c.requires.few, c.part_count-count.ensures)

pub loop-part-preserved : goal.loop-part-preserved
loop-part-preserved c =
    let within = rw c.as_slice-part-items.ensures at c.loop-part-test.true in
    let at = read_item _ c.args.shape.now.parts c.loop-part.part-index c.part-item.result c.as_slice-part-items.ensures c.part-item.is in
    record {
      near = plain_step part_points c.args.shape.now.parts c.loop-part.part-index _ _ within at c.loop-part.invariant.near;
      whole = count_step part_corners c.loop-part.count _ _ c.args.shape.now.parts c.loop-part.part-index _ _ within at c.part_count-count.ensures c.loop-part.invariant.whole;
    }
