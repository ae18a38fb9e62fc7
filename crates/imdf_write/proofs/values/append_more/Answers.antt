-- A comma and a value are added in each turn.
use Rattle.std.proofs.Common.{arith}
use Rattle.imdf_write.proofs.Lists.{next_item, no_item_left}
use Rattle.imdf_write.proofs.values.append_more.Goals as goal

pub loop-item-preserved : goal.loop-item-preserved
loop-item-preserved g c =
    let l = c.loop-item in
    next_item g.T.Written.value c.args.items.now l.item-index c.item-item.result l.out c.push.new.self c.append.new.out _ c.loop-item-test.true c.item-item.is
    l.invariant c.push.ensures c.append.ensures

pub returns : goal.returns
returns g c =
    no_item_left g.T.Written.value c.args.items.now c.loop-item.item-index c.loop-item.out _ (grind arith) c.loop-item.invariant
