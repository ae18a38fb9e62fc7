-- The size of a number from its parts.
use Rattle.std.proofs.Common.{◌≡◌, ℕ, ◌+◌, ◌-◌, ◌^◌, ◌<◌, ◌≤◌, List, [], ◌∷◌, ◌++◌, length, Option, Some, None, IfSome, unwrap_or, min, Bool, true, false, cond, refl, ap, ◌∙◌, subst, arith, length-append}
use Rattle.std.specs.Option.{SomeIff}
use Rattle.std.specs.Str.Parse.{AllDigits, IsNumeral, digits_value}
use Rattle.geo_decimal.specs.Number.{Exponent, Number, IsWellFormed}
use Rattle.geo_decimal.specs.Value.{digits, fraction_digits, exponent_up, exponent_down, is_minus, tens_up, tens_down, IsSize}
use Rattle.geo_decimal.specs.Rounding.{rounded_at}
use Rattle.geo_decimal.proofs.Cuts.{whole_digits}
use Rattle.geo_decimal.proofs.Roundings.{Found, NotFound, rounded_capped, nothing_kept}

both_digits : (xs ys : List ℕ) → AllDigits 10 xs → AllDigits 10 ys → AllDigits 10 (xs ++ ys)
both_digits [] ys h g = g
both_digits (x ∷ xs) ys h g = (h.0, both_digits xs ys h.1 g)

fraction_all : (f : Option (List ℕ)) → IfSome f (IsNumeral 10) → AllDigits 10 (unwrap_or f [])
fraction_all None h = tt
fraction_all (Some ds) h = h.1

pub all_digits : (n : Number) → IsWellFormed n → AllDigits 10 (n.whole ++ fraction_digits n)
all_digits n h = both_digits n.whole (fraction_digits n) (whole_digits n.whole h.whole) (fraction_all n.fraction h.fraction)

pub size_found : (n : Number) (kept : ℕ) (f : List ℕ) (r : Option ℕ) → IsWellFormed n → length n.whole + length (fraction_digits n) < 2 ^ 63 → exponent_down n.exponent ≤ length n.whole + 9
    → kept ≡ min (length n.whole + 9 + exponent_up n.exponent - exponent_down n.exponent) (2 ^ 64 - 1) → f ≡ fraction_digits n → SomeIff r (rounded_at (n.whole ++ f) kept ≤ 180000000000) (rounded_at (n.whole ++ f) kept)
    → Found (digits n) (tens_up n) (tens_down n) r × NotFound (digits n) (tens_up n) (tens_down n) r
size_found n kept f r h short low k e s =
    let place = length n.whole + 9 + exponent_up n.exponent - exponent_down n.exponent in
    let ds = n.whole ++ fraction_digits n in
    let l = length-append n.whole (fraction_digits n) in
    let at : rounded_at (n.whole ++ f) kept ≡ rounded_at ds (min place (2 ^ 64 - 1)) = ap (λ g. rounded_at (n.whole ++ g) kept) e ∙ ap (rounded_at ds) k in
    rounded_capped ds (tens_up n) (tens_down n) place (2 ^ 64 - 1) r (all_digits n h) (omega (arith, l, short)) (omega (arith, l, low)) (subst (λ q. SomeIff r (q ≤ 180000000000) q) at s)

-- an exponent is positive or negative, not both
up_with_down : (e : Option Exponent) → 0 < exponent_down e → exponent_up e ≡ 0
up_with_down None h = refl
up_with_down (Some e) h = by_sign (is_minus e.sign) (digits_value 10 e.digits) h
  where
    by_sign : (b : Bool) (v : ℕ) → 0 < cond b v 0 → cond b 0 v ≡ 0
    by_sign true v h = refl
    by_sign false v h = absurd (omega (arith, h))

pub size_none : (n : Number) → IsWellFormed n → length n.whole + 9 < exponent_down n.exponent → IsSize n 0
size_none n h far =
    let up = up_with_down n.exponent (omega (arith, far)) in
    nothing_kept (n.whole ++ fraction_digits n) (tens_up n) (tens_down n) (all_digits n h) (omega (arith, far, up, length-append n.whole (fraction_digits n)))
