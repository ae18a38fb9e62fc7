-- The table as it is filled.
use Rattle.std.proofs.Common.{◌≡◌, ◌≢◌, ℕ, ◌+◌, ◌*◌, ◌<◌, ◌≤◌, sym, ap, ◌∙◌, subst, arith, inl, inr}
use Rattle.std.specs.Int.{bit_at}
use Rattle.std.proofs.lemmas.Bool.{cases_eq}
use Rattle.stop_order.specs.Sums.{sum_in, IsLeast, IsKnown}
use Rattle.stop_order.specs.declared.legs.Legs.{Legs}
use Rattle.stop_order.specs.declared.table.Table.{Table}

-- the sums through the sets before this one, and through this one from the stops before that one
pub record IsFilledTo (legs : Legs) (table : Table) (set stop : ℕ) : Type 0 where
  pub sets : IsKnown legs table set
  pub stops : (j : ℕ) → j < stop → bit_at set j ≡ 0 → IsLeast legs set (j + 1) (sum_in table set j)

pub one_more_filled : (legs : Legs) (old new : Table) (set stop : ℕ) → legs.stops ≤ 8 → stop < legs.stops → IsFilledTo legs old set stop
    → (bit_at set stop ≡ 0 → IsLeast legs set (stop + 1) (sum_in new set stop))
    → ((s j : ℕ) → j < 8 → 8 * s + j ≢ 8 * set + stop → sum_in new s j ≡ sum_in old s j)
    → IsFilledTo legs new set (stop + 1)
one_more_filled legs old new set stop few below so_far filled others = record {
  sets = λ s j earlier low out.
      let same : sum_in new s j ≡ sum_in old s j = others s j (omega arith) (λ equal. omega arith) in
      subst (λ (sum : ℕ). IsLeast legs s (j + 1) sum) (sym same) (so_far.sets s j earlier low out);
  stops = λ j low out. elim (cases_eq j stop) [
    | inl here ↦ subst (λ (k : ℕ). IsLeast legs set (k + 1) (sum_in new set k)) (sym here) (filled (ap (bit_at set) (sym here) ∙ out))
    | inr other ↦
        (let same : sum_in new set j ≡ sum_in old set j = others set j (omega arith) (λ equal. omega arith) in
        subst (λ (sum : ℕ). IsLeast legs set (j + 1) sum) (sym same) (so_far.stops j (omega arith) out))
  ];
}

pub all_filled : (legs : Legs) (table : Table) (set stop : ℕ) → legs.stops ≤ stop → IsFilledTo legs table set stop → IsKnown legs table (set + 1)
all_filled legs table set stop all filled = λ s j low below out. elim (cases_eq s set) [
  | inl here ↦ subst (λ (t : ℕ). IsLeast legs t (j + 1) (sum_in table t j)) (sym here) (filled.stops j (omega arith) (ap (λ t. bit_at t j) (sym here) ∙ out))
  | inr other ↦ filled.sets s j (omega arith) below out
]
