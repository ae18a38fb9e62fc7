-- Every number has a value.
use Rattle.std.proofs.Common.{ℕ, ◌+◌, ◌-◌, ◌<◌, ◌≤◌, ◌⊎◌, inl, inr, List, length, ◌++◌, refl, arith, ℤ}
use Rattle.std.proofs.lemmas.Bool.{cases_lt}
use Rattle.geo_decimal.specs.Number.{Number, IsNumber, IsWellFormed}
use Rattle.geo_decimal.specs.Value.{fraction_digits, tens_up, tens_down, IsSize, signed, IsNano}
use Rattle.geo_decimal.specs.Rounding.{rounded_at}
use Rattle.geo_decimal.proofs.Roundings.{kept_rounded, nothing_kept}
use Rattle.geo_decimal.proofs.Sizes.{all_digits}

some_size : (n : Number) → IsWellFormed n → (q : ℕ) × IsSize n q
some_size n h = go (cases_lt (length (n.whole ++ fraction_digits n) + tens_up n) (tens_down n))
  where
    go : (length (n.whole ++ fraction_digits n) + tens_up n < tens_down n) ⊎ (tens_down n ≤ length (n.whole ++ fraction_digits n) + tens_up n) → (q : ℕ) × IsSize n q
    go (inl far) = (0, nothing_kept (n.whole ++ fraction_digits n) (tens_up n) (tens_down n) (all_digits n h) far)
    go (inr near) =
        let kept = length (n.whole ++ fraction_digits n) + tens_up n - tens_down n in
        (rounded_at (n.whole ++ fraction_digits n) kept, kept_rounded (n.whole ++ fraction_digits n) (tens_up n) (tens_down n) kept (all_digits n h) (omega (arith, near)))

pub some_value : (token : List ℕ) → IsNumber token → (n : ℤ) × IsNano token n
some_value token (n, s) =
    let q = some_size n s.well_formed in
    (signed n.minus q.0, record { number = n; spelled = s; size = q.0; rounded = q.1; value = refl })
