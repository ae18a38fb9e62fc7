use Rattle.std.proofs.Common.{arith}
use Rattle.std.proofs.lemmas.Option.{slice_get_within}
use Rattle.venue_nodes.specs.Rows.{row_list}
use Rattle.venue_nodes.proofs.Overfull.{none_next, not_so}
use Rattle.venue_nodes.proofs.limits.first_over.Goals as goal

pub loop-w-preserved : goal.loop-w-preserved
loop-w-preserved c =
    none_next c.args.rows.now c.args.counts.now c.loop-w.w c.unit_index-k.result c.row.result.now c.count_at.result c.row.ensures c.unit_index-k.ensures c.count_at.ensures
    (not_so c.is_over.result c.is_over.ensures c.if-is_over.false) c.loop-w.invariant

pub returns : goal.returns
returns c = λ w k over.
    let within = slice_get_within (row_list c.args.rows.now) w over.row over.there in
    let count = c.len-w-end.ensures.count in
    let end = c.loop-w-test.false in
    c.loop-w.invariant w k (omega (arith, within, count, end)) over
