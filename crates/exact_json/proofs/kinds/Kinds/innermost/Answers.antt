use Rattle.std.proofs.Common.{◌≡◌, ◌++◌, slice_get, sym, ap, ap₂, ◌∙◌, arith, rules}
use Rattle.exact_json.specs.Bits.{word, words}
use Rattle.exact_json.proofs.BitLemmas.{empty_word, no_words}
use Rattle.exact_json.proofs.kinds.Kinds.innermost.Goals as goal

pub returns-else-self-gt1 : goal.returns-else-self-gt1
returns-else-self-gt1 c =
    let n = c.self.inside.newest in
    let one : n ≡ 1 = omega (arith, c.self.invariant.leading) in
    let seen : c.args.self.now ≡ word n ++ words c.self.inside.full.items = first_of (search rules, cc) in
    sym (ap (λ l. slice_get l 0) (seen ∙ ap₂ (λ a b. word a ++ words b) one (c.self.invariant.empty one) ∙ ap₂ (λ a b. a ++ b) empty_word no_words))
