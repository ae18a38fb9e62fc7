-- What stands before the first byte that passes a test.
use Rattle.std.proofs.Common.{◌≡◌, ℕ, suc, ◌+◌, ◌<◌, Bool, true, false, cond, not, ◌==◌, nat_lt, List, [], ◌∷◌, ◌++◌, length, take, get_or, Option, Some, None, IfSome, refl, sym, ap, ◌∙◌, subst, arith, append_assoc, slice_index, ◌≢◌}
use Rattle.std.specs.List.{position, position_or_len}
use Rattle.std.proofs.lemmas.Bool.{ltb-false, or_from}
use Rattle.std.proofs.lemmas.List.Quantifiers.{position-Some}
use Rattle.std.proofs.lemmas.List.Sums.{prefix_len-le-length}
use Rattle.std.proofs.Math.Seq.{take-length}
use Rattle.geo_decimal.specs.Number.{Number, minus_text, fraction_text, exponent_text, spelling}
use Rattle.geo_decimal.specs.Cutting.{is_mark, is_stop, HasNone, IsCutExponent, IsCut}

before_place : (p : ℕ → Bool) (xs : List ℕ) → HasNone p (take (position_or_len p xs) xs)
before_place p [] = tt
before_place p (x ∷ xs) = step (p x) refl (before_place p xs)
  where
    step : (b : Bool) → p x ≡ b → HasNone p (take (position_or_len p xs) xs) → HasNone p (take (cond (not b) (1 + position_or_len p xs) 0) (x ∷ xs))
    step true e ih = tt
    step false e ih =
        let one_more : suc (position_or_len p xs) ≡ 1 + position_or_len p xs = omega arith in
        subst (λ n. HasNone p (take n (x ∷ xs))) one_more (e, ih)

-- none passes before the first that does
pub none_before : (p : ℕ → Bool) (xs : List ℕ) (i : ℕ) → Some i ≡ position p xs → HasNone p (take i xs)
none_before p xs i e = go (nat_lt (position_or_len p xs) (length xs)) e
  where
    go : (b : Bool) → Some i ≡ cond b (Some (position_or_len p xs)) None → HasNone p (take i xs)
    go true h = let same : position_or_len p xs ≡ i = cc in subst (λ n. HasNone p (take n xs)) same (before_place p xs)
    go false h = absurd (cc)

-- where no first one is, none passes
pub none_at_all : (p : ℕ → Bool) (xs : List ℕ) → None ≡ position p xs → HasNone p xs
none_at_all p xs e = go (nat_lt (position_or_len p xs) (length xs)) refl e
  where
    go : (b : Bool) → nat_lt (position_or_len p xs) (length xs) ≡ b → None ≡ cond b (Some (position_or_len p xs)) None → HasNone p xs
    go true f h = absurd (let n : None ≡ Some (position_or_len p xs) = h in cc)
    go false f h =
        let above = ltb-false _ _ f in
        let below = prefix_len-le-length (λ x. not (p x)) xs in
        let last : position_or_len p xs ≡ length xs = omega (arith, above, below) in
        subst (HasNone p) (ap (λ n. take n xs) last ∙ take-length xs) (before_place p xs)

-- the byte at the place passes
pub passes_at : (p : ℕ → Bool) (xs : List ℕ) (i : ℕ) → Some i ≡ position p xs → (i < length xs) × (p (get_or xs i 0) ≡ true)
passes_at p xs i e = let f = position-Some p xs i 0 (sym e) in (f.0, f.1)

none_in_front : (p : ℕ → Bool) (xs ys : List ℕ) → HasNone p (xs ++ ys) → HasNone p xs
none_in_front p [] ys h = tt
none_in_front p (x ∷ xs) ys h = (h.0, none_in_front p xs ys h.1)

none_behind : (p : ℕ → Bool) (xs ys : List ℕ) → HasNone p (xs ++ ys) → HasNone p ys
none_behind p [] ys h = h
none_behind p (x ∷ xs) ys h = none_behind p xs ys h.1

no_stop : (xs : List ℕ) → HasNone (λ c. c == 46) xs → HasNone is_mark xs → HasNone is_stop xs
no_stop [] h g = tt
no_stop (x ∷ xs) h g = (or_from (x == 46) (is_mark x) h.0 g.0, no_stop xs h.1 g.1)

fraction_part : (f : Option (List ℕ)) → HasNone is_mark (fraction_text f) → IfSome f (HasNone is_mark)
fraction_part None h = tt
fraction_part (Some ds) h = h.1

-- a token that is cut from its ends is cut
pub cut_parts : (n : Number) (t front u : List ℕ) → minus_text n.minus ++ u ≡ t → (n.minus ≡ false → slice_index t 0 ≢ 45) → front ++ exponent_text n.exponent ≡ u → HasNone is_mark front → IfSome n.exponent IsCutExponent → n.whole ++ fraction_text n.fraction ≡ front → HasNone (λ c. c == 46) n.whole → IsCut n
cut_parts n t front u a m b f x d w =
    let marks : HasNone is_mark (n.whole ++ fraction_text n.fraction) = subst (HasNone is_mark) (sym d) f in
    let unsigned : n.whole ++ (fraction_text n.fraction ++ exponent_text n.exponent) ≡ u = sym (append_assoc n.whole (fraction_text n.fraction) (exponent_text n.exponent)) ∙ ap (λ l. l ++ exponent_text n.exponent) d ∙ b in
    let all : spelling n ≡ t = ap (λ l. minus_text n.minus ++ l) unsigned ∙ a in
    record {
      minus = λ e. subst (λ l. slice_index l 0 ≢ 45) (sym all) (m e);
      whole = no_stop n.whole w (none_in_front is_mark n.whole _ marks);
      fraction = fraction_part n.fraction (none_behind is_mark n.whole _ marks);
      exponent = x;
    }
