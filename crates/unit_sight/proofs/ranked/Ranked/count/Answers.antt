use Rattle.std.proofs.Common.{◌+◌, ◌-◌, ◌*◌, arith}
use Rattle.unit_sight.proofs.Fronts.{count_all, word_count}
use Rattle.unit_sight.proofs.ranked.Ranked.count.Goals as goal

pub returns : goal.returns
returns c =
    let size = c.size.ensures.size in
    let words = c.row_words-last.ensures.is in
    let front = c.front.ensures.is in
    let ones = c.ones_of.ensures.is in
    let last = c.row_words-last.result - 1 in
    let count = word_count c.args.self.now c.args.i last c.word.result 64 (omega arith) c.word.ensures in
    let all = count_all c.args.self.now c.args.i (64 * last + 64) c.size.ensures.square c.requires (omega arith) in
    omega arith
