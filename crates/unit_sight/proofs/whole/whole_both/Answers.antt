use Rattle.std.proofs.Common.{arith, sym}
use Rattle.unit_sight.proofs.Masks.{whole_but_has, whole_but_hasnt, whole_counted}
use Rattle.unit_sight.proofs.whole.whole_both.Goals as goal

pub overflow_sub-result : goal.overflow_sub-result
overflow_sub-result c =
    let all = whole_counted c.args.size c.args.i c.args.mask.now c.count_of-all.result c.has.result c.requires.row c.requires.same c.count_of-all.ensures c.has.ensures in
    let count = whole_but_has _ _ c.has.result all c.if-has.true in
    omega arith

pub returns-then-has : goal.returns-then-has
returns-then-has c =
    let all = whole_counted c.args.size c.args.i c.args.mask.now c.count_of-all.result c.has.result c.requires.row c.requires.same c.count_of-all.ensures c.has.ensures in
    let count = whole_but_has _ _ c.has.result all c.if-has.true in
    omega arith

pub returns-else-has : goal.returns-else-has
returns-else-has c =
    let all = whole_counted c.args.size c.args.i c.args.mask.now c.count_of-all.result c.has.result c.requires.row c.requires.same c.count_of-all.ensures c.has.ensures in
    sym (whole_but_hasnt _ _ c.has.result all c.if-has.false)
