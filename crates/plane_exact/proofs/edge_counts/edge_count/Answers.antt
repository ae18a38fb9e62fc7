use Rattle.std.proofs.Common.{sym, arith}
use Rattle.plane_exact.specs.Figure.{part_edges}
use Rattle.plane_exact.proofs.ListLemmas.{count_none, count_one, read_item}
use Rattle.plane_exact.proofs.CornerCounts.{edges_of_parts, edges_few}
use Rattle.plane_exact.proofs.edge_counts.edge_count.Goals as goal

pub loop-part-init : goal.loop-part-init
loop-part-init c = count_none _ _ (sym (edges_of_parts c.args.shape.now))

pub part_count-count-requires : goal.part_count-count-requires
part_count-count-requires c =
    let within = rw c.as_slice-part-items.ensures at c.loop-part-test.true in
    let at = read_item _ c.args.shape.now.parts c.loop-part.part-index c.part-item.result c.as_slice-part-items.ensures c.part-item.is in
    let fits = count_one part_edges c.loop-part.count _ c.args.shape.now.parts c.loop-part.part-index _ _ within at c.loop-part.invariant in
    record { few = omega (arith, fits, edges_few c.args.shape.now, c.requires.few) }

pub overflow_add-count : goal.overflow_add-count
overflow_add-count c =
    let within = rw c.as_slice-part-items.ensures at c.loop-part-test.true in
    let at = read_item _ c.args.shape.now.parts c.loop-part.part-index c.part-item.result c.as_slice-part-items.ensures c.part-item.is in
    let fits = count_one part_edges c.loop-part.count _ c.args.shape.now.parts c.loop-part.part-index _ _ within at c.loop-part.invariant in
    omega (arith, fits, edges_few c.args.shape.now, c.requires.few, c.part_count-count.ensures)
