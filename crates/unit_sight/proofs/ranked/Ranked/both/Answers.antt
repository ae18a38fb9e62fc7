use Rattle.std.proofs.Common.{◌*◌, arith}
use Rattle.unit_sight.specs.Words.{is_both}
use Rattle.unit_sight.proofs.Masks.{both_end, both_few, both_word, count_word}
use Rattle.unit_sight.proofs.ranked.Ranked.both.Goals as goal

pub overflow_add-both : goal.overflow_add-both
overflow_add-both c =
    let few = both_few c.args.self.now c.args.i c.args.mask.now c.loop-w.w c.loop-w.both c.loop-w.invariant in
    let words = c.row_words-w-end.ensures.few in
    let ones = c.ones_of-both.ensures.few in
    omega arith

pub loop-w-preserved : goal.loop-w-preserved
loop-w-preserved c =
    count_word (is_both c.args.self.now c.args.i c.args.mask.now) c.loop-w.w c.shared.result c.loop-w.both c.ones_of-both.result c.loop-w.invariant c.ones_of-both.ensures.is
    (both_word c.args.self.now c.args.i c.args.mask.now c.loop-w.w c.word.result c.word-in-loop-w.result c.shared.result c.word.ensures c.word-in-loop-w.ensures c.shared.ensures)

pub returns : goal.returns
returns c =
    let size = c.size.ensures.size in
    let words = c.row_words-w-end.ensures.is in
    let end = c.loop-w-test.false in
    let all = both_end c.args.self.now c.args.i c.args.mask.now (64 * c.loop-w.w) c.size.ensures.square c.requires.row (omega arith) in
    let count = c.loop-w.invariant in
    omega arith
