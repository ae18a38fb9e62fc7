use Rattle.nearest_place.proofs.RowLemmas.{rows_none, rows_more, rows_all}
use Rattle.nearest_place.proofs.rows.rows_of.Goals as goal

pub row_to-requires : goal.row_to-requires
row_to-requires c = c.requires c.loop-entry.entry-index _ c.loop-entry-test.true

pub loop-entry-init : goal.loop-entry-init
loop-entry-init c = rows_none c.args.reach.now _ c.new-rows.ensures

pub loop-entry-preserved : goal.loop-entry-preserved
loop-entry-preserved c =
    rows_more c.args.reach.now c.args.entries.now c.loop-entry.entry-index _ c.in_ok-row.row c.loop-entry.rows c.push.new.self c.loop-entry-test.true c.loop-entry.invariant
    c.in_ok-row.ensures.same c.in_ok-row.ensures.walked c.in_ok-push.ensures.ok

pub returns : goal.returns
returns c = rows_all c.args.reach.now c.args.entries.now c.loop-entry.entry-index c.loop-entry.rows c.loop-entry-test.false c.loop-entry.invariant
