use Rattle.std.proofs.Common.{◌≡◌, ◌*◌, ◌+◌, arith, ap}
use Rattle.unit_sight.specs.Words.{words_in}
use Rattle.unit_sight.proofs.WordLemmas.{seen_word, word_inside}
use Rattle.unit_sight.proofs.bits.Bits.word.Goals as goal

pub index-requires : goal.index-requires
index-requires c =
    let size = c.self.inside.size in
    let inside = word_inside size c.self.inside.words.items c.args.self.now c.args.i c.args.w c.self.view_is c.self.invariant c.requires.row c.requires.within in
    let place : c.args.i * c.row_words.result + c.args.w ≡ c.args.i * words_in size + c.args.w = ap (λ n. c.args.i * n + c.args.w) c.row_words.ensures.is in
    omega arith

pub returns : goal.returns
returns c =
    let size = c.self.inside.size in
    let inside = word_inside size c.self.inside.words.items c.args.self.now c.args.i c.args.w c.self.view_is c.self.invariant c.requires.row c.requires.within in
    let place : c.args.i * c.row_words.result + c.args.w ≡ c.args.i * words_in size + c.args.w = ap (λ n. c.args.i * n + c.args.w) c.row_words.ensures.is in
    seen_word size c.self.inside.words.items c.args.self.now c.args.i c.args.w _ c.index.result.now c.self.view_is c.self.invariant c.requires.row c.requires.within
    place (omega arith) c.index.ensures
