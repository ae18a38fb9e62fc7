-- The text of degrees, as it is written from its end.
use Rattle.std.proofs.Common.{◌≡◌, ℕ, zero, suc, ◌+◌, ◌-◌, ◌*◌, ◌/◌, ◌%◌, ◌^◌, ◌<◌, ◌≤◌, List, ◌∷◌, ◌++◌, length, drop, set, drop-cons, replicate, refl, sym, ap, ◌∙◌, arith, length-append}
use Rattle.std.specs.Fmt.{decimal}
use Rattle.std.specs.Str.Parse.{AllDigits, digits_value}
use Rattle.std.proofs.lemmas.Fmt.{decimal_is_IsNumeral, decimal-digits_value, length-decimal-le}
use Rattle.std.proofs.lemmas.Str.Parse.{numerals_by_value, tells_digits}
use Rattle.std.proofs.lemmas.List.{length-replicate}
use Rattle.std.proofs.lemmas.Grind.{drop-set_at}
use Rattle.geo_decimal.specs.Text.{nine_digits, size_text}
use Rattle.geo_decimal.proofs.DigitValues.{after_weight}

zeros_are_digits : (k : ℕ) (ds : List ℕ) → AllDigits 10 ds → AllDigits 10 (replicate k 48 ++ ds)
zeros_are_digits zero ds h = h
zeros_are_digits (suc k) ds h = (omega arith, zeros_are_digits k ds h)

zeros_add_nothing : (k : ℕ) (ds : List ℕ) → digits_value 10 (replicate k 48 ++ ds) ≡ digits_value 10 ds
zeros_add_nothing zero ds = refl
zeros_add_nothing (suc k) ds = zeros_add_nothing k ds

pub nine_long : (r : ℕ) → r < 1000000000 → length (nine_digits r) ≡ 9
nine_long r h =
    let short : length (decimal r) ≤ 9 = length-decimal-le 9 r (omega arith) h (omega (arith, h)) in
    omega (arith, short, length-append {A = ℕ} (replicate (9 - length (decimal r)) 48) (decimal r), length-replicate {A = ℕ} (9 - length (decimal r)) 48)

nine_value : (r : ℕ) → r < 1000000000 → digits_value 10 (nine_digits r) ≡ r
nine_value r h = zeros_add_nothing (9 - length (decimal r)) (decimal r) ∙ (decimal_is_IsNumeral r (omega (arith, h))).1

-- a 1 in front of nine digits
behind_one : (r : ℕ) → r < 1000000000 → digits_value 10 (49 ∷ nine_digits r) ≡ 1000000000 + r
behind_one r h = after_weight 1 (nine_digits r) ∙ joined (length (nine_digits r)) (digits_value 10 (nine_digits r)) r (nine_long r h) (nine_value r h)
  where
    joined : (n v r : ℕ) → n ≡ 9 → v ≡ r → 1 * 10 ^ n + v ≡ 1000000000 + r
    joined n v r p q = ap (λ x. 1 * 10 ^ x + v) p ∙ ap (λ x. 1000000000 + x) q

pub one_and_nine : (r : ℕ) → r < 1000000000 → decimal (1000000000 + r) ≡ 49 ∷ nine_digits r
one_and_nine r h =
    let ds = 49 ∷ nine_digits r in
    let digits : AllDigits 10 ds = (omega arith, zeros_are_digits (9 - length (decimal r)) (decimal r) (decimal_is_IsNumeral r (omega (arith, h))).0.1) in
    let few : digits_value 10 ds < 2 ^ 64 = omega (arith, behind_one r h, h) in
    ap decimal (sym (behind_one r h)) ∙ decimal-digits_value (numerals_by_value (AllDigits 10) tells_digits) ds digits (omega arith) (λ e. absurd (omega (arith, e))) few

pub whole_short : (size : ℕ) → size ≤ 2 ^ 63 → length (decimal (size / 1000000000)) ≤ 10
whole_short size h =
    let whole : size / 1000000000 < 10 ^ 10 = omega (arith, h) in
    length-decimal-le 10 (size / 1000000000) (omega arith) whole (omega (arith, whole))

pub size_long : (size : ℕ) → length (size_text size) ≡ length (decimal (size / 1000000000)) + 10
size_long size =
    omega (arith, length-append (decimal (size / 1000000000)) (46 ∷ nine_digits (size % 1000000000)), nine_long (size % 1000000000) (omega arith))

pub size_short : (size : ℕ) → size ≤ 2 ^ 63 → length (size_text size) ≤ 20
size_short size h = omega (arith, whole_short size h, size_long size)

-- the byte in front of others is replaced
pub first_replaced : (xs ys : List ℕ) (i y z : ℕ) → i < length xs → drop i xs ≡ y ∷ ys → drop i (set xs i z) ≡ z ∷ ys
first_replaced xs ys i y z h e =
    let next : i + 1 ≡ suc i = omega arith in
    let others : drop (i + 1) xs ≡ ys = ap (λ k. drop k xs) next ∙ ap (drop 1) (sym (drop-cons xs i 0 h) ∙ e) in
    drop-set_at xs i i z refl h ∙ ap (λ l. z ∷ l) others
