-- The value of a number, times 10^9 and rounded to the nearest whole number, ties away from zero.
use Rattle.std.specs.Prelude.{◌≡◌, ℕ, ◌+◌, ◌-◌, ◌*◌, ◌^◌, ◌<◌, ◌≤◌, ◌==◌, Bool, false, List, [], ◌++◌, length, Option, Some, None, unwrap_or, if◌then◌else◌, ℤ, pos, neg_ℤ, ◌≤ℤ◌}
use Rattle.std.specs.Str.Parse.{digits_value}
use Rattle.geo_decimal.specs.Number.{Exponent, Number, Spells}

-- the digits of the fraction, none where there is no fraction
abbrev pub fraction_digits : Number → List ℕ
fraction_digits n = unwrap_or n.fraction []

-- the whole part and the fraction, read as one number
abbrev pub digits : Number → ℕ
digits n = digits_value 10 (n.whole ++ fraction_digits n)

abbrev pub is_minus : Option ℕ → Bool
is_minus None = false
is_minus (Some c) = c == 45

-- the exponent where it is positive, else 0
abbrev pub exponent_up : Option Exponent → ℕ
exponent_up None = 0
exponent_up (Some e) = if is_minus e.sign then 0 else digits_value 10 e.digits

-- the exponent without its sign where it is negative, else 0
abbrev pub exponent_down : Option Exponent → ℕ
exponent_down None = 0
exponent_down (Some e) = if is_minus e.sign then digits_value 10 e.digits else 0

-- A number stands for digits * 10^(exponent - fraction digits). Times 10^9 this is digits * 10^(tens_up - tens_down).
abbrev pub tens_up : Number → ℕ
tens_up n = exponent_up n.exponent + 9

abbrev pub tens_down : Number → ℕ
tens_down n = exponent_down n.exponent + length (fraction_digits n)

-- q has the property, and no greater number has it
pub record IsGreatest (P : ℕ → Type 0) (q : ℕ) : Type 0 where
  pub has : P q
  pub greatest : (p : ℕ) → P p → p ≤ q

-- q is d * 10^(up - down), where the exponent is at least 0; else the greatest whole q such that q - 1/2 is at or below that
pub record IsRounded (d up down q : ℕ) : Type 0 where
  pub exact : down ≤ up → q ≡ d * 10 ^ (up - down)
  pub nearest : up < down → IsGreatest (λ p. 2 * p * 10 ^ (down - up) ≤ 2 * d + 10 ^ (down - up)) q

-- q is the number without its sign, times 10^9 and rounded
abbrev pub IsSize : Number → ℕ → Type 0
IsSize n q = IsRounded (digits n) (tens_up n) (tens_down n) q

abbrev pub signed : Bool → ℕ → ℤ
signed minus size = if minus then neg_ℤ (pos size) else pos size

-- n is the value of the token in billionths, rounded, so that a coordinate in degrees is read in nanodegrees
pub record IsNano (token : List ℕ) (n : ℤ) : Type 0 where
  pub number : Number
  pub spelled : Spells token number
  pub size : ℕ
  pub rounded : IsSize number size
  pub value : n ≡ signed number.minus size

-- half a turn either way, in nanodegrees
abbrev pub IsWithin : ℤ → Type 0
IsWithin n = (neg_ℤ (pos 180000000000) ≤ℤ n) × (n ≤ℤ pos 180000000000)
