-- What a push and a pop of the heap mean for what waits.
use Rattle.std.proofs.Common.{◌≡◌, ℕ, ◌+◌, ◌≤◌, suc, zero, false, List, [], ◌∷◌, refl, arith, inl, inr, ◌⊎◌, length, ap}
use Rattle.std.specs.declared.cmp.Reverse.{Reverse}
use Rattle.std.specs.List.{Contains}
use Rattle.std.specs.List.Sorted.{IsPermutation}
use Rattle.std.specs.Ordering.{nat_cmp, is_lt}
use Rattle.std.specs.BinaryHeap.{heap_items, heap_len, IsUpperBound}
use Rattle.std.proofs.lemmas.List.Elements.{All-contains, All-from_recursion, All-head}
use Rattle.std.proofs.lemmas.List.Sorted.{Contains-permutation, IsPermutation-sym, first_le_from_greatest}
use Rattle.route_search.specs.declared.frontier.Frontier.{Frontier}
use Rattle.route_search.specs.Waiting.{entry_cmp, entry, Waits, waiting, IsPushed, IsPopped}

contains_cons : {X : Type 0} (y : X) (xs : List X) (x : X) → Contains xs x → Contains (y ∷ xs) x
contains_cons y xs x (k, within, is) = (suc k, omega arith, is)

contains_first : {X : Type 0} (xs : List X) (x : X) → Contains (x ∷ xs) x
contains_first xs x = (0, omega arith, refl)

contains_cases : {X : Type 0} (y : X) (xs : List X) (x : X) → Contains (y ∷ xs) x → Contains xs x ⊎ (y ≡ x)
contains_cases y xs x (zero, within, is) = inr is
contains_cases y xs x (suc k, within, is) = inl (k, omega arith, is)

entry_parts : (c d m n : ℕ) → entry c m ≡ entry d n → (c ≡ d) × (m ≡ n)
entry_parts c d m n e = (ap (λ (x : Reverse (ℕ × ℕ)). x.0.0) e, ap (λ (x : Reverse (ℕ × ℕ)). x.0.1) e)

not_below : (x y : Reverse (ℕ × ℕ)) → is_lt (entry_cmp x y) ≡ false → x.0.0 ≤ y.0.0
not_below x y low = All-head (λ (z : ℕ × ℕ). z.0 ≤ y.0.0) x.0 [] (first_le_from_greatest nat_cmp y.0 (x.0 ∷ []) (low, tt))

least_entry : (x y : Reverse (ℕ × ℕ)) (xs : List (Reverse (ℕ × ℕ))) → IsUpperBound entry_cmp x xs → Contains xs y → x.0.0 ≤ y.0.0
least_entry x y xs bound has =
    not_below x y (All-contains (λ (z : Reverse (ℕ × ℕ)). is_lt (entry_cmp x z) ≡ false) xs y (All-from_recursion (λ (z : Reverse (ℕ × ℕ)). is_lt (entry_cmp x z) ≡ false) xs bound) has)

pub none_waits : (f : Frontier) → length (heap_items f.heap) ≡ 0 → (c n : ℕ) → Waits f c n → ⊥
unfolding Waits
none_waits f none c n (k, within, is) = omega arith

pub pushed : (old new : Frontier) (cost node : ℕ) → heap_len new.heap ≡ heap_len old.heap + 1
    → IsPermutation (entry cost node ∷ heap_items old.heap) (heap_items new.heap) → IsPushed old new cost node
unfolding Waits waiting
pushed old new cost node len same = record {
  len = len;
  added = Contains-permutation _ _ (entry cost node) same (contains_first (heap_items old.heap) (entry cost node));
  kept = λ c n has. Contains-permutation _ _ (entry c n) same (contains_cons (entry cost node) (heap_items old.heap) (entry c n) has);
  only = λ c n has. elim (contains_cases (entry cost node) (heap_items old.heap) (entry c n) (Contains-permutation _ _ (entry c n) (IsPermutation-sym _ _ same) has)) [
    | inl was ↦ inl was
    | inr is ↦ inr (entry_parts cost c node n is)
  ];
}

pub popped : (old new : Frontier) (cost node : ℕ) → heap_len new.heap + 1 ≡ heap_len old.heap
    → IsPermutation (heap_items old.heap) (entry cost node ∷ heap_items new.heap) → IsUpperBound entry_cmp (entry cost node) (heap_items old.heap)
    → IsPopped old new cost node
unfolding Waits waiting
popped old new cost node len same bound = record {
  len = len;
  waited = Contains-permutation _ _ (entry cost node) (IsPermutation-sym _ _ same) (contains_first (heap_items new.heap) (entry cost node));
  least = λ c n has. least_entry (entry cost node) (entry c n) (heap_items old.heap) bound has;
  kept = λ c n has. elim (contains_cases (entry cost node) (heap_items new.heap) (entry c n) (Contains-permutation _ _ (entry c n) same has)) [
    | inl was ↦ inl was
    | inr is ↦ inr (entry_parts cost c node n is)
  ];
  only = λ c n has. Contains-permutation _ _ (entry c n) (IsPermutation-sym _ _ same) (contains_cons (entry cost node) (heap_items new.heap) (entry c n) has);
}
