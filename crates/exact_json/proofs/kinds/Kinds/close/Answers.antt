use Rattle.std.proofs.Common.{◌≡◌, ◌<◌, [], ◌∷◌, ◌++◌, drop, sym, ap, ap₂, ◌∙◌, subst, arith, rules}
use Rattle.std.proofs.lemmas.List.{append-nil}
use Rattle.exact_json.specs.Bits.{word, words, AllAboveOne}
use Rattle.exact_json.proofs.BitLemmas.{empty_word, no_words, pushed_word, above_last, above_front, rest_drop}
use Rattle.exact_json.proofs.kinds.Kinds.close.Goals as goal

pub returns-then-self-le1 : goal.returns-then-self-le1
returns-then-self-le1 c =
    let n = c.self.inside.newest in
    let one : n ≡ 1 = omega (arith, c.self.invariant.leading) in
    let seen : c.args.self.now ≡ word n ++ words c.self.inside.full.items = first_of (search rules, cc) in
    let none : c.args.self.now ≡ [] = seen ∙ ap₂ (λ a b. word a ++ words b) one (c.self.invariant.empty one) ∙ ap₂ (λ a b. a ++ b) empty_word no_words in
    none ∙ sym (ap (drop 1) none)

pub returns-then-rest-gt1 : goal.returns-then-rest-gt1
returns-then-rest-gt1 c =
    let n = c.self.inside.newest in
    let low : 1 < n = omega arith in
    let seen : c.args.self.now ≡ word n ++ words c.self.inside.full.items = first_of (search rules, cc) in
    sym (ap (drop 1) seen ∙ rest_drop n c.removed-rest.result (words c.self.inside.full.items) low c.removed-rest.ensures.value)

pub invariant_of-self-in-Some : goal.invariant_of-self-in-Some
invariant_of-self-in-Some c =
    let ns = c.pop.new.self.items in
    let all : AllAboveOne (ns ++ c.in-Some.kinds ∷ []) = subst AllAboveOne c.in-Some.ensures.items c.self.invariant.above in
    let last = above_last ns c.in-Some.kinds all in
    record { leading = omega (arith, last); empty = λ e. absurd (omega (arith, e, last)); above = above_front ns c.in-Some.kinds all }

pub returns-in-Some : goal.returns-in-Some
returns-in-Some c =
    let n = c.self.inside.newest in
    let low : 1 < n = omega arith in
    let one : c.removed-rest.result ≡ 1 = omega (arith, c.removed-rest.ensures.leading) in
    let seen : c.args.self.now ≡ word n ++ words c.self.inside.full.items = first_of (search rules, cc) in
    sym (ap (drop 1) seen ∙ rest_drop n c.removed-rest.result (words c.self.inside.full.items) low c.removed-rest.ensures.value
    ∙ ap₂ (λ a b. a ++ b) (ap word one ∙ empty_word) (ap words c.in-Some.ensures.items ∙ pushed_word c.pop.new.self.items c.in-Some.kinds))

pub returns-in-None : goal.returns-in-None
returns-in-None c =
    let n = c.self.inside.newest in
    let low : 1 < n = omega arith in
    let one : c.removed-rest.result ≡ 1 = omega (arith, c.removed-rest.ensures.leading) in
    let seen : c.args.self.now ≡ word n ++ words c.self.inside.full.items = first_of (search rules, cc) in
    let same : c.self.inside.full.items ≡ c.pop.new.self.items = c.in-None.ensures.items ∙ append-nil c.pop.new.self.items in
    sym (ap (drop 1) seen ∙ rest_drop n c.removed-rest.result (words c.self.inside.full.items) low c.removed-rest.ensures.value
    ∙ ap₂ (λ a b. word a ++ words b) one same)
