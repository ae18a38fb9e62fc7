-- The best of the stops that were tried.
use Rattle.std.proofs.Common.{◌≡◌, ◌⊎◌, ℕ, ◌-◌, ◌^◌, ◌≤◌, sym, ap, ◌∙◌, arith, inl, inr}
use Rattle.std.specs.Int.{bit_at}
use Rattle.std.proofs.lemmas.Bool.{cases_eq}
use Rattle.std.proofs.lemmas.Nat.Bits.{bit_at-zero}
use Rattle.stop_order.specs.Sums.{sum_by, IsSum, IsNext}
use Rattle.stop_order.specs.declared.legs.Legs.{Legs}
use Rattle.stop_order.specs.declared.table.Table.{Table}
use Rattle.stop_order.specs.declared.next.Choice.{Choice}
use Rattle.stop_order.proofs.Bits.{less_other}

-- a choice is as good as each stop of the set that isn't left to try
pub record IsBestYet (legs : Legs) (table : Table) (set place : ℕ) (best : Choice) (left : ℕ) : Type 0 where
  pub within : left ≤ set
  pub inside : (k : ℕ) → bit_at left k ≡ 1 → bit_at set k ≡ 1
  pub reached : IsSum legs table set place best
  pub below : (k : ℕ) → bit_at set k ≡ 1 → bit_at left k ≡ 0 → best.sum ≤ sum_by legs table set place k

-- the first that is tried
pub first_tried : (legs : Legs) (table : Table) (set place : ℕ) (first : Choice) (k : ℕ) → bit_at set k ≡ 1 → first.stop ≡ k
    → IsSum legs table set place first → IsBestYet legs table set place first (set - 2 ^ k)
first_tried legs table set place first k has is sum = record {
  within = omega arith;
  inside = λ i in_left. elim (cases_eq i k) [
    | inl same ↦ ap (bit_at set) same ∙ has
    | inr other ↦ sym (less_other set k i has other) ∙ in_left
  ];
  reached = sum;
  below = λ i in_set out. elim (cases_eq i k) [
    | inl same ↦ (let equal : sum_by legs table set place i ≡ first.sum = ap (sum_by legs table set place) (same ∙ sym is) ∙ sym sum.sum in omega arith)
    | inr other ↦ absurd (let kept : bit_at (set - 2 ^ k) i ≡ bit_at set i = less_other set k i has other in omega arith)
  ];
}

-- one more
pub one_more_tried : (legs : Legs) (table : Table) (set place : ℕ) (best other lesser : Choice) (left k : ℕ)
    → IsBestYet legs table set place best left → bit_at left k ≡ 1 → other.stop ≡ k → IsSum legs table set place other
    → (lesser ≡ best) ⊎ (lesser ≡ other) → lesser.sum ≤ best.sum → lesser.sum ≤ other.sum
    → IsBestYet legs table set place lesser (left - 2 ^ k)
one_more_tried legs table set place best other lesser left k so_far has is sum either first second = record {
  within = let low = so_far.within in omega arith;
  inside = λ i in_left. elim (cases_eq i k) [
    | inl same ↦ so_far.inside i (ap (bit_at left) same ∙ has)
    | inr differs ↦ so_far.inside i (sym (less_other left k i has differs) ∙ in_left)
  ];
  reached = elim either [
    | inl same ↦ rw same so_far.reached
    | inr same ↦ rw same sum
  ];
  below = λ i in_set out. elim (cases_eq i k) [
    | inl same ↦ (let equal : sum_by legs table set place i ≡ other.sum = ap (sum_by legs table set place) (same ∙ sym is) ∙ sym sum.sum in omega arith)
    | inr differs ↦ (let low : best.sum ≤ sum_by legs table set place i = so_far.below i in_set (sym (less_other left k i has differs) ∙ out) in omega arith)
  ];
}

-- at the end all were tried
pub all_tried : (legs : Legs) (table : Table) (set place : ℕ) (best : Choice) (left : ℕ) → left ≡ 0
    → IsBestYet legs table set place best left → IsNext legs table set place best
all_tried legs table set place best left none so_far = record {
  reached = so_far.reached;
  below = λ k in_set. so_far.below k in_set (ap (λ n. bit_at n k) none ∙ bit_at-zero k);
}
