use Rattle.std.proofs.Common.{◌+◌, arith, refl}
use Rattle.unit_sight.proofs.Ones.{nth_counted, nth_first, nth_room}
use Rattle.unit_sight.proofs.words.nth_bit.Goals as goal

pub loop-before-init : goal.loop-before-init
loop-before-init c =
    let is = c.first_bit-at.ensures in
    nth_first c.args.word 0 c.first_bit-at.result 0 (let more = c.requires in omega arith) refl is.behind is.range is.bit is.none

pub first_bit-at-requires-in-loop-before : goal.first_bit-at-requires-in-loop-before
first_bit-at-requires-in-loop-before c = nth_room c.args.word c.loop-before.at c.loop-before._before c.loop-before.invariant (let more = c.requires in omega arith)

pub loop-before-preserved : goal.loop-before-preserved
loop-before-preserved c =
    let is = c.first_bit-at-in-loop-before.ensures in
    nth_first c.args.word (c.loop-before.at + 1) c.first_bit-at-in-loop-before.result (c.loop-before._before + 1) (let more = c.requires in omega arith)
    (nth_counted c.args.word c.loop-before.at c.loop-before._before c.loop-before.invariant) is.behind is.range is.bit is.none
