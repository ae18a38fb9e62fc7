-- A comma and a label are added in each turn.
use Rattle.std.proofs.Common.{arith}
use Rattle.imdf_write.proofs.Lists.{next_label, no_label_left}
use Rattle.imdf_write.proofs.names.append_more_labels.Goals as goal

pub loop-label-preserved : goal.loop-label-preserved
loop-label-preserved c =
    let l = c.loop-label in
    next_label c.args.labels.now l.label-index c.label-item.result l.out c.push.new.self c.append_label.new.out _ c.loop-label-test.true c.label-item.is
    l.invariant c.push.ensures c.append_label.ensures

pub returns : goal.returns
returns c = no_label_left c.args.labels.now c.loop-label.label-index c.loop-label.out _ (grind arith) c.loop-label.invariant
