-- What the definitions of a number's value amount to.
use Rattle.std.specs.Prelude.{◌≡◌, ℕ, ◌+◌, ◌-◌, ◌*◌, ◌^◌, ◌≤◌, ◌↔◌, List, ℤ}
use Rattle.geo_decimal.specs.Number.{IsNumber}
use Rattle.geo_decimal.specs.Value.{IsRounded, IsNano}

-- how far two numbers are apart
abbrev pub distance : ℕ → ℕ → ℕ
distance a b = (a - b) + (b - a)

-- q is at most one half away from the fraction, and at one half it is above
pub record IsNearest (numerator denominator q : ℕ) : Type 0 where
  pub close : 2 * distance (q * denominator) numerator ≤ denominator
  pub tie : 2 * distance (q * denominator) numerator ≡ denominator → numerator ≤ q * denominator

-- The size of a value is the whole number nearest to d * 10^up / 10^down, ties away from zero.
abbrev pub RoundedIsNearest : Type 0
RoundedIsNearest = (d up down q : ℕ) → IsRounded d up down q ↔ IsNearest (d * 10 ^ up) (10 ^ down) q

-- A number has a value.
abbrev pub HasValue : Type 0
HasValue = (token : List ℕ) → IsNumber token → (n : ℤ) × IsNano token n

-- No token has two values.
abbrev pub HasOneValue : Type 0
HasOneValue = (token : List ℕ) (m n : ℤ) → IsNano token m → IsNano token n → m ≡ n
