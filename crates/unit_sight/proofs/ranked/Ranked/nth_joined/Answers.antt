use Rattle.std.proofs.Common.{arith}
use Rattle.unit_sight.proofs.Fronts.{found_nth, more_bits}
use Rattle.unit_sight.proofs.ranked.Ranked.nth_joined.Goals as goal

pub nth_bit-requires : goal.nth_bit-requires
nth_bit-requires c =
    let front = c.front-front.ensures.is in
    let low = c.word_of-w.ensures.front in
    more_bits c.args.self.now c.args.i c.word_of-w.result c.word-word.result c.args.k c.front-front.result c.word-word.ensures c.word_of-w.ensures.behind front (omega arith)

pub returns : goal.returns
returns c =
    let front = c.front-front.ensures.is in
    let low = c.word_of-w.ensures.front in
    let count = c.nth_bit.ensures.count in
    found_nth c.args.self.now c.args.i c.word_of-w.result c.word-word.result c.nth_bit.result c.args.k c.size-square.ensures.square c.requires.row c.word-word.ensures
    c.nth_bit.ensures.range c.nth_bit.ensures.bit (omega arith)
