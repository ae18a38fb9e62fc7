use Rattle.std.proofs.Common.{◌≡◌, ◌+◌, ◌*◌, ◌/◌, ◌%◌, arith, ap}
use Rattle.unit_sight.specs.Tables.{joins}
use Rattle.unit_sight.specs.Words.{count_to, bits_in}
use Rattle.unit_sight.proofs.Counts.{count_few}
use Rattle.unit_sight.proofs.Fronts.{word_count}
use Rattle.unit_sight.proofs.ranked.Ranked.rank.Goals as goal

pub overflow_add-result : goal.overflow_add-result
overflow_add-result c =
    let few = c.front.ensures.few in
    let ones = c.ones_below.ensures in
    let low = count_few (bits_in c.word.result) (c.args.j % 64) in
    omega arith

pub returns : goal.returns
returns c =
    let front = c.front.ensures.is in
    let ones = c.ones_below.ensures in
    let count = word_count c.args.self.now c.args.i (c.args.j / 64) c.word.result (c.args.j % 64) (omega arith) c.word.ensures in
    let place : 64 * (c.args.j / 64) + c.args.j % 64 ≡ c.args.j = omega arith in
    let counted : count_to (joins c.args.self.now c.args.i) (64 * (c.args.j / 64) + c.args.j % 64) ≡ count_to (joins c.args.self.now c.args.i) c.args.j = ap (count_to (joins c.args.self.now c.args.i)) place in
    omega arith
