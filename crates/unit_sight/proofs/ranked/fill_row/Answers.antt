use Rattle.std.proofs.Common.{arith}
use Rattle.unit_sight.proofs.Fronts.{fill_step, front_few}
use Rattle.unit_sight.proofs.ranked.fill_row.Goals as goal

pub overflow_cast-fronts : goal.overflow_cast-fronts
overflow_cast-fronts c =
    let few = front_few c.args.bits.now c.args.i c.loop-w.w c.loop-w.front c.loop-w.invariant.front in
    let words = c.row_words-words.ensures.few in
    omega arith

pub overflow_add-front : goal.overflow_add-front
overflow_add-front c =
    let few = front_few c.args.bits.now c.args.i c.loop-w.w c.loop-w.front c.loop-w.invariant.front in
    let words = c.row_words-words.ensures.few in
    let ones = c.ones_of-front.ensures.few in
    omega arith

pub loop-w-preserved : goal.loop-w-preserved
loop-w-preserved c =
    fill_step c.args.bits.now c.loop-w.fronts c.args.i c.loop-w.w c.row_words-words.result c.loop-w.front c.word.result c.ones_of-front.result
    c.loop-w.invariant.fronts c.requires.row (omega arith) (let size = c.size.ensures.size in let words = c.row_words-words.ensures.is in omega arith) c.loop-w.invariant.front c.word.ensures c.ones_of-front.ensures.is
