-- What the table of costs says, read at a place and a place.
use Rattle.std.proofs.Common.{◌≡◌, ℕ, zero, suc, ◌+◌, ◌*◌, ◌/◌, ◌%◌, ◌^◌, ◌<◌, ◌≤◌, List, [], ◌∷◌, Option, Some, None, length, get_or, set, replicate, refl, sym, ap, ◌∙◌, arith, inl, inr}
use Rattle.std.specs.Prelude.{option_and_then, slice_get}
use Rattle.std.specs.Option.{unwrap_or}
use Rattle.std.proofs.lemmas.Bool.{cases_eq}
use Rattle.std.proofs.lemmas.List.{length-set, get_or-set_same, get_or-set_other}
use Rattle.stop_order.specs.Orders.{AreSmall, cost_between}
use Rattle.stop_order.specs.Sums.{or_far}
use Rattle.stop_order.specs.declared.costs.Costs.{Costs}

read_row : (row : List (Option ℕ)) (j : ℕ) → get_or row j None ≡ option_and_then (λ cost. cost) (slice_get row j)
read_row [] j = refl
read_row (x ∷ xs) zero = refl
read_row (x ∷ xs) (suc j) = read_row xs j

read_rows : (rows : List (List (Option ℕ))) (i j : ℕ)
    → get_or (get_or rows i []) j None ≡ option_and_then (λ row. option_and_then (λ cost. cost) (slice_get row j)) (slice_get rows i)
read_rows [] i j = refl
read_rows (row ∷ rows) zero j = read_row row j
read_rows (row ∷ rows) (suc i) j = read_rows rows i j

pub cost_read : (costs : Costs) (i j : ℕ) → get_or (get_or costs.rows i []) j None ≡ cost_between costs i j
cost_read costs i j = read_rows costs.rows i j

far_read : (cost : Option ℕ) → unwrap_or cost (2 ^ 50) ≡ or_far cost
far_read (Some cost) = refl
far_read None = refl

pub read_or_far : (costs : Costs) (i j : ℕ) → unwrap_or (get_or (get_or costs.rows i []) j None) (2 ^ 50) ≡ or_far (cost_between costs i j)
read_or_far costs i j = far_read (get_or (get_or costs.rows i []) j None) ∙ ap or_far (cost_read costs i j)

-- the legs from a table, in tens, as far as they are read: those of the costs, and 0 behind them
pub record AreReadTo (costs : Costs) (legs : List ℕ) (n : ℕ) : Type 0 where
  pub long : length legs ≡ 100
  pub each : (i j : ℕ) → j < 10 → 10 * i + j < n → get_or legs (10 * i + j) 0 ≡ or_far (cost_between costs i j)
  pub low : (k : ℕ) → get_or legs k 0 ≤ 2 ^ 50

same_read : (n k z : ℕ) → get_or (replicate n z) k z ≡ z
same_read zero k z = refl
same_read (suc n) zero z = refl
same_read (suc n) (suc k) z = same_read n k z

pub no_legs : (costs : Costs) → AreReadTo costs (replicate 100 0) 0
no_legs costs = record {
  long = refl;
  each = λ i j low before. absurd (omega arith);
  low = λ k. let there = same_read 100 k 0 in omega arith;
}

or_far_low : (cost : Option ℕ) → ((c : ℕ) → cost ≡ Some c → c < 2 ^ 42) → or_far cost ≤ 2 ^ 50
or_far_low (Some cost) small = let low = small cost refl in omega arith
or_far_low None small = omega arith

pub one_more_leg : (costs : Costs) (legs : List ℕ) (n read : ℕ) → AreSmall costs → n < 100 → AreReadTo costs legs n
    → read ≡ or_far (cost_between costs (n / 10) (n % 10)) → AreReadTo costs (set legs n read) (n + 1)
one_more_leg costs legs n read small before_end so_far is =
    let long = so_far.long in
    let within : n < length legs = omega arith in
    record {
      long = length-set legs n read ∙ long;
      each = λ i j low before. elim (cases_eq (10 * i + j) n) [
        | inl here ↦
            (let row : i ≡ n / 10 = omega arith in
            let column : j ≡ n % 10 = omega arith in
            let same : cost_between costs i j ≡ cost_between costs (n / 10) (n % 10) = ap (λ k. cost_between costs k j) row ∙ ap (cost_between costs (n / 10)) column in
            ap (λ k. get_or (set legs n read) k 0) here ∙ (get_or-set_same legs n read 0 within ∙ (is ∙ ap or_far (sym same))))
        | inr other ↦ get_or-set_other legs n (10 * i + j) read 0 other ∙ so_far.each i j low (omega arith)
      ];
      low = λ k. elim (cases_eq k n) [
        | inl here ↦
            (let there : get_or (set legs n read) k 0 ≡ read = ap (λ k. get_or (set legs n read) k 0) here ∙ get_or-set_same legs n read 0 within in
            let low = or_far_low (cost_between costs (n / 10) (n % 10)) (small.small (n / 10) (n % 10)) in
            omega arith)
        | inr other ↦
            (let there : get_or (set legs n read) k 0 ≡ get_or legs k 0 = get_or-set_other legs n k read 0 other in
            let low = so_far.low k in
            omega arith)
      ];
    }
