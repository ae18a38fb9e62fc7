-- A comma and a feature are added in each turn.
use Rattle.std.proofs.Common.{arith}
use Rattle.imdf_write.proofs.Lists.{next_item, no_item_left}
use Rattle.imdf_write.proofs.file.append_more.Goals as goal

pub loop-row-preserved : goal.loop-row-preserved
loop-row-preserved g c =
    let l = c.loop-row in
    next_item (g.R.Canonical.feature c.args.file) c.args.rows.now l.row-index c.row-item.result l.out c.push.new.self c.append.new.out _ c.loop-row-test.true c.row-item.is
    l.invariant c.push.ensures c.append.ensures

pub returns : goal.returns
returns g c =
    no_item_left (g.R.Canonical.feature c.args.file) c.args.rows.now c.loop-row.row-index c.loop-row.out _ (grind arith) c.loop-row.invariant
