use Rattle.std.proofs.Common.{arith}
use Rattle.unit_sight.proofs.WordLemmas.{in_table, read_word, seen_put, seen_put_bits}
use Rattle.unit_sight.proofs.bits.Bits.put.Goals as goal

pub word_place-place-requires-clause-row : goal.word_place-place-requires-clause-row
word_place-place-requires-clause-row c = in_table _ _ _ _ c.self.view_is c.requires.row

pub word_place-place-requires-clause-column : goal.word_place-place-requires-clause-column
word_place-place-requires-clause-column c = in_table _ _ _ _ c.self.view_is c.requires.column

pub invariant_of-self : goal.invariant_of-self
invariant_of-self c =
    let size = c.self.inside.size in
    let words = c.self.inside.words.items in
    let place = c.word_place-place.ensures.is in
    let count = c.self.invariant.count in
    let within = c.word_place-place.ensures.within in
    seen_put_bits size words c.args.self.now c.args.i c.args.j c.word_place-place.result c.index.result.now c.with_bit.result c.self.view_is c.self.invariant
    c.requires.row c.requires.column place (read_word size words c.args.i c.args.j _ _ place (omega arith) c.index.ensures)
    c.with_bit.type_inv c.with_bit.ensures.set c.with_bit.ensures.others

pub returns : goal.returns
returns c =
    let size = c.self.inside.size in
    let words = c.self.inside.words.items in
    let place = c.word_place-place.ensures.is in
    let count = c.self.invariant.count in
    let within = c.word_place-place.ensures.within in
    seen_put size words c.args.self.now c.args.i c.args.j c.word_place-place.result c.index.result.now c.with_bit.result c.self.view_is c.self.invariant
    c.requires.row c.requires.column place (read_word size words c.args.i c.args.j _ _ place (omega arith) c.index.ensures)
    c.with_bit.ensures.set c.with_bit.ensures.others
