use Rattle.std.proofs.Common.{arith}
use Rattle.unit_sight.proofs.WordLemmas.{in_table, read_word, seen_bit}
use Rattle.unit_sight.proofs.bits.Bits.joins.Goals as goal

pub word_place-requires-clause-row : goal.word_place-requires-clause-row
word_place-requires-clause-row c = in_table _ _ _ _ c.self.view_is c.requires.row

pub word_place-requires-clause-column : goal.word_place-requires-clause-column
word_place-requires-clause-column c = in_table _ _ _ _ c.self.view_is c.requires.column

pub returns : goal.returns
returns c =
    let size = c.self.inside.size in
    let words = c.self.inside.words.items in
    let place = c.word_place.ensures.is in
    let count = c.self.invariant.count in
    let within = c.word_place.ensures.within in
    seen_bit size words c.args.self.now c.args.i c.args.j c.index-word.result.now c.has_bit.result c.self.view_is c.requires.row c.requires.column
    (read_word size words c.args.i c.args.j _ _ place (omega arith) c.index-word.ensures) c.has_bit.ensures
