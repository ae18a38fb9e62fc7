use Rattle.std.proofs.Common.{◌≡◌, [], ◌∷◌, ◌++◌, sym, ap, ap₂, ◌∙◌, subst, arith, rules}
use Rattle.exact_json.specs.Bits.{word, words, AllAboveOne}
use Rattle.exact_json.proofs.BitLemmas.{empty_word, pushed_word, above_push}
use Rattle.exact_json.proofs.kinds.Kinds.open.Goals as goal

pub invariant_of-self-in-Ok : goal.invariant_of-self-in-Ok
invariant_of-self-in-Ok c =
    let grown : c.push.new.self.items ≡ c.self.inside.full.items ++ c.self.inside.newest ∷ [] = search rules in
    let last = c.added-self-inside-in-Ok.ensures.above in
    record { leading = omega (arith, last); empty = λ e. absurd (omega (arith, e, last)); above = subst AllAboveOne (sym grown) (above_push c.self.inside.full.items c.self.inside.newest c.self.invariant.above (omega arith)) }

pub returns-in-Ok : goal.returns-in-Ok
returns-in-Ok c =
    let n = c.self.inside.newest in
    let ns = c.self.inside.full.items in
    let grown : c.push.new.self.items ≡ ns ++ n ∷ [] = search rules in
    let seen : c.args.self.now ≡ word n ++ words ns = first_of (search rules, cc) in
    ap₂ (λ a b. a ++ b) (c.added-self-inside-in-Ok.ensures.value ∙ ap (λ l. c.args.kind ∷ l) empty_word) (ap words grown ∙ pushed_word ns n) ∙ ap (λ l. c.args.kind ∷ l) (sym seen)
