-- Kinds as bits: one more, one fewer, and the newest.
use Rattle.std.proofs.Common.{◌≡◌, ℕ, zero, suc, ◌+◌, ◌*◌, ◌/◌, ◌%◌, ◌^◌, ◌<◌, ◌≤◌, cond, nat_lt, ◌∙◌, List, [], ◌∷◌, ◌++◌, drop, slice_get, Some, refl, sym, ap, ap₂, arith, append_assoc}
use Rattle.std.proofs.lemmas.Bool.{lt-ltb}
use Rattle.std.proofs.lemmas.List.{append-nil}
use Rattle.exact_json.specs.declared.kinds.Kind.{Kind}
use Rattle.exact_json.specs.Bits.{kind_of_bit, bits, word, words, AllAboveOne}

one_more : (f n : ℕ) → bits (suc f) n ≡ cond (nat_lt 1 n) (kind_of_bit (n % 2) ∷ bits f (n / 2)) []
unfolding bits
one_more f n = refl

pow_step : (f : ℕ) → 2 ^ suc f ≡ 2 * 2 ^ f
pow_step f = omega arith

shorter : (f n : ℕ) → n < 2 ^ f → bits (suc f) n ≡ bits f n
unfolding bits
shorter zero n h = let z : n ≡ 0 = omega (arith, h) in ap (bits 1) z
shorter (suc f) n h = one_more (suc f) n ∙ ap (λ l. cond (nat_lt 1 n) (kind_of_bit (n % 2) ∷ l) []) (shorter f (n / 2) (omega (arith, h, pow_step f))) ∙ sym (one_more f n)

holds_kind : (f n : ℕ) → 1 < n → bits (suc f) n ≡ kind_of_bit (n % 2) ∷ bits f (n / 2)
holds_kind f n h = one_more f n ∙ ap (λ b. cond b (kind_of_bit (n % 2) ∷ bits f (n / 2)) []) (lt-ltb 1 n h)

pub empty_word : word 1 ≡ []
unfolding bits
empty_word = refl

pub added_kind : (n b r : ℕ) (k : Kind) → 1 ≤ n → n < 2 ^ 63 → b < 2 → kind_of_bit b ≡ k → r ≡ n * 2 + b → word r ≡ k ∷ word n
added_kind n b r k low high small is same =
    let rest : r % 2 ≡ b = omega (arith, same, small) in
    let half : r / 2 ≡ n = omega (arith, same, small) in
    holds_kind 63 r (omega (arith, same, low)) ∙ ap₂ (λ x y. kind_of_bit x ∷ bits 63 y) rest half ∙ ap₂ (λ x y. x ∷ y) is (sym (shorter 63 n high))

pub removed_kind : (n : ℕ) → 1 < n → n < 2 ^ 64 → word (n / 2) ≡ drop 1 (word n)
removed_kind n low high = shorter 63 (n / 2) (omega (arith, high)) ∙ sym (ap (drop 1) (holds_kind 63 n low))

pub newest_kind : (n : ℕ) → 1 < n → Some (kind_of_bit (n % 2)) ≡ slice_get (word n) 0
newest_kind n low = sym (ap (λ l. slice_get l 0) (holds_kind 63 n low))

pub pushed_word : (ns : List ℕ) (n : ℕ) → words (ns ++ n ∷ []) ≡ word n ++ words ns
unfolding words
pushed_word [] n = sym (append-nil (word n))
pushed_word (m ∷ ns) n = ap (λ l. l ++ word m) (pushed_word ns n) ∙ append_assoc (word n) (words ns) (word m)

pub no_words : words [] ≡ []
unfolding words
no_words = refl

pub above_push : (ns : List ℕ) (n : ℕ) → AllAboveOne ns → 1 < n → AllAboveOne (ns ++ n ∷ [])
above_push [] n h l = (l, tt)
above_push (m ∷ ns) n h l = (h.0, above_push ns n h.1 l)

pub above_last : (ns : List ℕ) (n : ℕ) → AllAboveOne (ns ++ n ∷ []) → 1 < n
above_last [] n h = h.0
above_last (m ∷ ns) n h = above_last ns n h.1

pub above_front : (ns : List ℕ) (n : ℕ) → AllAboveOne (ns ++ n ∷ []) → AllAboveOne ns
above_front [] n h = tt
above_front (m ∷ ns) n h = (h.0, above_front ns n h.1)

-- without the newest kind
pub rest_drop : (n r : ℕ) (ks : List Kind) → 1 < n → word r ≡ drop 1 (word n) → drop 1 (word n ++ ks) ≡ word r ++ ks
rest_drop n r ks low is =
    let first = holds_kind 63 n low in
    ap (λ l. drop 1 (l ++ ks)) first ∙ ap (λ l. drop 1 l ++ ks) (sym first) ∙ ap (λ l. l ++ ks) (sym is)

pub newest_first : (n : ℕ) (ks : List Kind) → 1 < n → slice_get (word n ++ ks) 0 ≡ slice_get (word n) 0
newest_first n ks low = let first = holds_kind 63 n low in ap (λ l. slice_get (l ++ ks) 0) first ∙ sym (ap (λ l. slice_get l 0) first)
