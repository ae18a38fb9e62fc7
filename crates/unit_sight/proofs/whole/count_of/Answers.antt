use Rattle.std.proofs.Common.{◌*◌, arith}
use Rattle.unit_sight.proofs.Masks.{count_word, mask_end, mask_few}
use Rattle.unit_sight.proofs.whole.count_of.Goals as goal

pub overflow_add-count : goal.overflow_add-count
overflow_add-count c =
    let few = mask_few c.args.mask.now c.loop-w.w c.loop-w.count c.loop-w.invariant in
    let words = c.row_words-w-end.ensures.few in
    let ones = c.ones_of-count.ensures.few in
    omega arith

pub loop-w-preserved : goal.loop-w-preserved
loop-w-preserved c = count_word _ c.loop-w.w c.word.result c.loop-w.count c.ones_of-count.result c.loop-w.invariant c.ones_of-count.ensures.is c.word.ensures

pub returns : goal.returns
returns c =
    let size = c.size.ensures.size in
    let words = c.row_words-w-end.ensures.is in
    let end = c.loop-w-test.false in
    let all = mask_end c.args.mask.now (64 * c.loop-w.w) (omega arith) in
    let count = c.loop-w.invariant in
    omega arith
