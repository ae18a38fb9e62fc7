-- A number of nanodegrees, written with nine digits behind the point, is read back.
use Rattle.std.proofs.Common.{◌≡◌, ℕ, zero, suc, ◌+◌, ◌-◌, ◌*◌, ◌/◌, ◌%◌, ◌^◌, ◌<◌, ◌≤◌, Bool, true, false, List, [], ◌∷◌, ◌++◌, length, get_or, replicate, Some, None, inl, inr, refl, sym, ap, ◌∙◌, subst, arith, length-append, ℤ, pos, negsuc}
use Rattle.std.specs.Fmt.{decimal}
use Rattle.std.specs.Str.Parse.{AllDigits, IsNumeral, digits_value}
use Rattle.std.proofs.lemmas.Fmt.{decimal_is_IsNumeral, decimal_digit, first_decimal, length-decimal-le}
use Rattle.std.proofs.lemmas.Str.Parse.{digit_from_value}
use Rattle.std.proofs.lemmas.List.{length-replicate, append-nil}
use Rattle.std.proofs.Math.Nat.{mod-lt}
use Rattle.std.proofs.lemmas.Nat.{div-add-mod'}
use Rattle.std.proofs.lemmas.Int.{ints}
use Rattle.geo_decimal.specs.Number.{Number, IsWhole, IsWellFormed}
use Rattle.geo_decimal.specs.Value.{IsSize, IsNano, IsWithin}
use Rattle.geo_decimal.specs.Text.{nine_digits, degrees_text}
use Rattle.geo_decimal.proofs.DigitValues.{after_append, after_weight}

-- ---- nine digits

zeros_are_digits : (k : ℕ) (ds : List ℕ) → AllDigits 10 ds → AllDigits 10 (replicate k 48 ++ ds)
zeros_are_digits zero ds h = h
zeros_are_digits (suc k) ds h = (omega arith, zeros_are_digits k ds h)

zeros_add_nothing : (k : ℕ) (ds : List ℕ) → digits_value 10 (replicate k 48 ++ ds) ≡ digits_value 10 ds
zeros_add_nothing zero ds = refl
zeros_add_nothing (suc k) ds = zeros_add_nothing k ds

nine_long : (r : ℕ) → r < 1000000000 → length (nine_digits r) ≡ 9
nine_long r h =
    let short : length (decimal r) ≤ 9 = length-decimal-le 9 r (omega arith) h (omega (arith, h)) in
    omega (arith, short, length-append {A = ℕ} (replicate (9 - length (decimal r)) 48) (decimal r), length-replicate {A = ℕ} (9 - length (decimal r)) 48)

nine_value : (r : ℕ) → r < 1000000000 → digits_value 10 (nine_digits r) ≡ r
nine_value r h = zeros_add_nothing (9 - length (decimal r)) (decimal r) ∙ (decimal_is_IsNumeral r (omega (arith, h))).1

nine_numeral : (r : ℕ) → r < 1000000000 → IsNumeral 10 (nine_digits r)
nine_numeral r h = (omega (arith, nine_long r h), zeros_are_digits (9 - length (decimal r)) (decimal r) (decimal_is_IsNumeral r (omega (arith, h))).0.1)

-- ---- whole degrees

whole_of : (ds : List ℕ) → IsNumeral 10 ds → 48 < get_or ds 0 0 → IsWhole ds
whole_of [] h first = absurd (omega (arith, h.0))
whole_of (c ∷ cs) h first = inr (omega (arith, first), (digit_from_value c h.1.0).1, h.1.1)

whole_decimal : (w : ℕ) → w < 2 ^ 64 → IsWhole (decimal w)
whole_decimal zero h = subst IsWhole (sym (decimal_digit 0 (omega arith))) (inl (refl, refl))
whole_decimal (suc w) h = whole_of (decimal (suc w)) (decimal_is_IsNumeral (suc w) h).0 (first_decimal (suc w) (omega arith) h)

-- ---- both

number : Bool → ℕ → Number
number minus size = record { minus = minus; whole = decimal (size / 1000000000); fraction = Some (nine_digits (size % 1000000000)); exponent = None }

well_formed : (minus : Bool) (size : ℕ) → size ≤ 180000000000 → IsWellFormed (number minus size)
unfolding number
well_formed minus size h = record {
  whole = whole_decimal (size / 1000000000) (omega (arith, h));
  fraction = nine_numeral (size % 1000000000) (mod-lt size (omega arith));
  exponent = tt;
}

digits_are : (size : ℕ) → size ≤ 180000000000 → digits_value 10 (decimal (size / 1000000000) ++ nine_digits (size % 1000000000)) ≡ size
digits_are size h =
    let w = size / 1000000000 in
    let r = size % 1000000000 in
    let small : r < 1000000000 = mod-lt size (omega arith) in
    let front : digits_value 10 (decimal w) ≡ w = (decimal_is_IsNumeral w (omega (arith, h))).1 in
    after_append 0 (decimal w) (nine_digits r) ∙ after_weight (digits_value 10 (decimal w)) (nine_digits r)
    ∙ joined (digits_value 10 (decimal w)) (length (nine_digits r)) (digits_value 10 (nine_digits r)) w r front (nine_long r small) (nine_value r small) ∙ div-add-mod' size 1000000000
  where
    joined : (a n b w r : ℕ) → a ≡ w → n ≡ 9 → b ≡ r → a * 10 ^ n + b ≡ w * 1000000000 + r
    joined a n b w r p q s = ap (λ x. x * 10 ^ n + b) p ∙ ap (λ x. w * 10 ^ x + b) q ∙ ap (λ x. w * 1000000000 + x) s

rounded : (minus : Bool) (size : ℕ) → size ≤ 180000000000 → IsSize (number minus size) size
unfolding number
rounded minus size h =
    let nine = nine_long (size % 1000000000) (mod-lt size (omega arith)) in record {
      exact = λ le. sym (digits_are size h) ∙ at_one (digits_value 10 (decimal (size / 1000000000) ++ nine_digits (size % 1000000000))) (length (nine_digits (size % 1000000000))) nine;
      nearest = λ lt. absurd (omega (arith, lt, nine));
    }
  where
    at_one : (d n : ℕ) → n ≡ 9 → d ≡ d * 10 ^ (9 - (0 + n))
    at_one d n e = let none : 9 - (0 + n) ≡ 0 = omega (arith, e) in (omega arith) ∙ ap (λ k. d * 10 ^ k) (sym none)

pub read_back : (n : ℤ) → IsWithin n → IsNano (degrees_text n) n
unfolding number
read_back (pos size) h =
    let small : size ≤ 180000000000 = omega (arith, ints, h.1) in record {
      number = number false size;
      spelled = record { text = ap (λ l. decimal (size / 1000000000) ++ 46 ∷ l) (sym (append-nil (nine_digits (size % 1000000000)))); well_formed = well_formed false size small };
      size = size;
      rounded = rounded false size small;
      value = refl;
    }
read_back (negsuc less) h =
    let small : suc less ≤ 180000000000 = omega (arith, ints, h.0) in record {
      number = number true (suc less);
      spelled = record { text = ap (λ l. 45 ∷ decimal (suc less / 1000000000) ++ 46 ∷ l) (sym (append-nil (nine_digits (suc less % 1000000000)))); well_formed = well_formed true (suc less) small };
      size = suc less;
      rounded = rounded true (suc less) small;
      value = refl;
    }
