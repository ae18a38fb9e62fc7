-- Rows and tables whose costs are small, as they are filled.
use Rattle.std.proofs.Common.{◌≡◌, ℕ, zero, suc, ◌<◌, ◌^◌, List, [], Option, Some, None, length, get_or, set, replicate, refl, sym, ap, subst, ◌∙◌, arith, inl, inr}
use Rattle.std.specs.Prelude.{IfSome}
use Rattle.std.proofs.lemmas.Bool.{cases_eq, cases_lt}
use Rattle.std.proofs.lemmas.List.{get_or-set_same, get_or-set_other, set_past}
use Rattle.stop_order.specs.Orders.{AreSmall}
use Rattle.stop_order.proofs.LegLemmas.{cost_read}
use Rattle.stop_order.specs.declared.costs.Costs.{Costs}
use Rattle.test_order.specs.Rows.{IsSmallRow}

no_cost : (n j : ℕ) (none : Option ℕ) → get_or (replicate n none) j none ≡ none
no_cost zero j none = refl
no_cost (suc n) zero none = refl
no_cost (suc n) (suc j) none = no_cost n j none

pub empty_row : (n : ℕ) → IsSmallRow (replicate n None)
empty_row n = record { small = λ j cost is. absurd (let none = no_cost n j None in cc) }

pub nil_row : IsSmallRow []
nil_row = record { small = λ j cost is. absurd (cc) }

pub one_more_cost : (row : List (Option ℕ)) (i : ℕ) (cost : Option ℕ) → IsSmallRow row → IfSome cost (λ c. c < 2 ^ 42) → i < length row → IsSmallRow (set row i cost)
one_more_cost row i (Some c) so_far low within = record {
  small = λ j d is. elim (cases_eq j i) [
    | inl here ↦
        (let there : get_or (set row i (Some c)) j None ≡ Some c = ap (λ k. get_or (set row i (Some c)) k None) here ∙ get_or-set_same row i (Some c) None within in
        let same : c ≡ d = (cc) in
        omega arith)
    | inr other ↦ so_far.small j d (sym (get_or-set_other row i j (Some c) None other) ∙ is)
  ];
}
one_more_cost row i None so_far low within = record {
  small = λ j d is. elim (cases_eq j i) [
    | inl here ↦
        (let there : get_or (set row i None) j None ≡ None = ap (λ k. get_or (set row i None) k None) here ∙ get_or-set_same row i None None within in
        absurd (cc))
    | inr other ↦ so_far.small j d (sym (get_or-set_other row i j None None other) ∙ is)
  ];
}

-- each row is small
pub record AreSmallRows (rows : List (List (Option ℕ))) : Type 0 where
  pub each : (i : ℕ) → IsSmallRow (get_or rows i [])

none_yet : (n m i : ℕ) → IsSmallRow (get_or (replicate n (replicate m None)) i [])
none_yet zero m i = nil_row
none_yet (suc n) m zero = empty_row m
none_yet (suc n) m (suc i) = none_yet n m i

pub empty_rows : (n m : ℕ) → AreSmallRows (replicate n (replicate m None))
empty_rows n m = record { each = none_yet n m }

pub one_more_row : (rows : List (List (Option ℕ))) (i : ℕ) (row : List (Option ℕ)) → AreSmallRows rows → IsSmallRow row → AreSmallRows (set rows i row)
one_more_row rows i row so_far small = record {
  each = λ k. elim (cases_eq k i) [
    | inl here ↦ elim (cases_lt i (length rows)) [
      | inl within ↦ subst IsSmallRow (sym (ap (λ k. get_or (set rows i row) k []) here ∙ get_or-set_same rows i row [] within)) small
      | inr past ↦ subst (λ (rows : List (List (Option ℕ))). IsSmallRow (get_or rows k [])) (sym (set_past rows i row past)) (so_far.each k)
    ]
    | inr other ↦ subst IsSmallRow (sym (get_or-set_other rows i k row [] other)) (so_far.each k)
  ];
}

pub small_table : (costs : Costs) → AreSmallRows costs.rows → AreSmall costs
small_table costs rows = record { small = λ i j cost is. (rows.each i).small j cost (cost_read costs i j ∙ is) }
