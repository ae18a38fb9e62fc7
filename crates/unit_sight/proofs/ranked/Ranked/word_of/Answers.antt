use Rattle.std.proofs.Common.{◌+◌, ◌*◌, ◌/◌, length, arith}
use Rattle.unit_sight.specs.Tables.{joins}
use Rattle.unit_sight.proofs.Counts.{count_few}
use Rattle.unit_sight.proofs.Fronts.{count_all}
use Rattle.unit_sight.proofs.ranked.Ranked.word_of.Goals as goal

pub loop-w-init : goal.loop-w-init
loop-w-init c =
    let test = joins c.args.self.now c.args.i in
    let some = count_few test (length c.args.self.now) in
    let few = count_few test (64 * (c.args.k / 64)) in
    let more = c.requires.more in
    record { within = omega arith; front = omega arith }

pub returns-clause-behind : goal.returns-clause-behind
returns-clause-behind c =
    let words = c.row_words-last.ensures.is in
    let size = c.size.ensures.size in
    let within = c.loop-w.invariant.within in
    let past = c.loop-w-test.false in
    let more = c.requires.more in
    let all = count_all c.args.self.now c.args.i (64 * c.loop-w.w + 64) c.size.ensures.square c.requires.row (omega arith) in
    omega arith
