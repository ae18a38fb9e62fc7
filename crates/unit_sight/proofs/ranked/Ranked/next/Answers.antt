use Rattle.std.proofs.Common.{arith, sym}
use Rattle.unit_sight.proofs.Fronts.{found_next, next_bit, none_further, none_next}
use Rattle.unit_sight.proofs.ranked.Ranked.next.Goals as goal

pub returns-then-at-lt64 : goal.returns-then-at-lt64
returns-then-at-lt64 c =
    let is = c.first_bit-at.ensures in
    let loop = c.loop-w.invariant in
    let behind = is.behind in
    let place = loop.behind in
    let low = c.if-at-lt64.true in
    sym (found_next c.args.self.now c.args.i c.args.known c.args.from _ c.size.ensures.square c.requires.row
    (next_bit c.args.self.now c.args.i c.args.known c.args.from c.loop-w.w c.new_word.result c.first_bit-at.result c.new_word.ensures low (is.bit low) (omega arith))
    (none_further c.args.self.now c.args.i c.args.known c.args.from c.loop-w.w c.loop-w.low c.first_bit-at.result c.new_word.result c.new_word.ensures loop.none is.none is.range))

pub loop-w-preserved : goal.loop-w-preserved
loop-w-preserved c =
    let is = c.first_bit-at.ensures in
    let loop = c.loop-w.invariant in
    let place = loop.behind in
    let low = loop.low in
    let high = c.if-at-lt64.false in
    record {
      low = omega arith;
      behind = omega arith;
      none = λ m below.
          none_further c.args.self.now c.args.i c.args.known c.args.from c.loop-w.w c.loop-w.low c.first_bit-at.result c.new_word.result c.new_word.ensures loop.none is.none is.range m
          (omega arith);
    }

pub returns : goal.returns
returns c =
    let size = c.size.ensures.size in
    let words = c.row_words-w-end.ensures.is in
    let end = c.loop-w-test.false in
    none_next c.args.self.now c.args.i c.args.known c.args.from _ (omega arith) c.loop-w.invariant.none
