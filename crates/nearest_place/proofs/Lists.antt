-- Lists seen through a function, and how many different numbers a list has.
use Rattle.std.proofs.Common.{◌≡◌, ◌≢◌, ◌⊎◌, ℕ, ◌<◌, ◌≤◌, zero, suc, List, [], ◌∷◌, length, get_or, map, remove, All, AllPairs, refl, sym, subst, arith, inl, inr}
use Rattle.std.specs.Prelude.{Contains}
use Rattle.std.proofs.lemmas.Bool.Decides.{eqb_tells}
use Rattle.std.proofs.lemmas.List.{get_or-map, length-map}
use Rattle.std.proofs.lemmas.List.Sorted.{IsPermutation-remove, Contains-permutation, length_permutation}
use Rattle.venue_types.proofs.Items.{Contains-first, Contains-later, Contains-cons_cases}

-- what holds of each item's view
pub all_of_map : {A B : Type 0} (f : A → B) (P : B → Type 0) (xs : List A) → All P (map f xs) → All (λ (x : A). P (f x)) xs
all_of_map f P xs all k d within = subst P (get_or-map f xs k d (f d) within) (all k (f d) (omega (arith, within, length-map xs f)))

-- and of each two items' views
pub pairs_of_map : {A B : Type 0} (f : A → B) (R : B → B → Type 0) (xs : List A) → AllPairs R (map f xs) → AllPairs (λ (x y : A). R (f x) (f y)) xs
pairs_of_map {A} {B} f R xs all i j d before within =
    let far : R (get_or (map f xs) i (f d)) (get_or (map f xs) j (f d)) = all i j (f d) before (omega (arith, within, length-map xs f)) in
    subst (λ (b : B). R (f (get_or xs i d)) b) (get_or-map f xs j d (f d) within)
    (subst (λ (b : B). R b (get_or (map f xs) j (f d))) (get_or-map f xs i d (f d) (omega arith)) far)

-- the same back, where a default is at hand
pub pairs_to_map : {A B : Type 0} (f : A → B) (R : B → B → Type 0) (xs : List A) → AllPairs (λ (x y : A). R (f x) (f y)) xs → AllPairs R (map f xs)
pairs_to_map f R [] all i j d before within = absurd (omega arith)
pairs_to_map {A} {B} f R (x ∷ xs) all i j d before within =
    let inside : j < length (x ∷ xs) = omega (arith, within, length-map (x ∷ xs) f) in
    let far : R (f (get_or (x ∷ xs) i x)) (f (get_or (x ∷ xs) j x)) = all i j x before inside in
    subst (λ (b : B). R (get_or (map f (x ∷ xs)) i d) b) (sym (get_or-map f (x ∷ xs) j x d inside))
    (subst (λ (b : B). R b (f (get_or (x ∷ xs) j x))) (sym (get_or-map f (x ∷ xs) i x d (omega arith))) far)

pub Contains-view : {A B : Type 0} (f : A → B) (xs : List A) (x : A) → Contains xs x → Contains (map f xs) (f x)
Contains-view f [] x at = absurd (omega (arith, at.1))
Contains-view f (y ∷ xs) x (zero, within, is) = (0, omega arith, subst (λ z. f y ≡ f z) is refl)
Contains-view f (y ∷ xs) x (suc k, within, is) = Contains-later (f y) (map f xs) (f x) (Contains-view f xs x (k, omega (arith, within), is))

-- a number stands in a list or doesn't
pub has_or_not : (xs : List ℕ) (n : ℕ) → Contains xs n ⊎ (¬ Contains xs n)
has_or_not [] n = inr (λ at. omega (arith, at.1))
has_or_not (x ∷ xs) n = elim (eqb_tells x n) [
  | inl here ↦ inl (0, omega arith, here.1)
  | inr other ↦ elim (has_or_not xs n) [
    | inl later ↦ inl (Contains-later x xs n later)
    | inr never ↦ inr (λ at. elim (Contains-cons_cases x xs n at) [ inl is ↦ other.1 is | inr later ↦ never later ])
  ]
]

-- different numbers of a list are no more than the list has
pub few_different : (ns xs : List ℕ) → AllPairs (λ a b. a ≢ b) ns → ((n : ℕ) → Contains ns n → Contains xs n) → length ns ≤ length xs
few_different [] xs different within = omega arith
few_different (n ∷ ns) xs different within =
    let (k, inside, is) = within n (Contains-first n ns) in
    let moved = IsPermutation-remove xs k n inside (sym is) in
    let apart : (m : ℕ) → Contains ns m → n ≢ m = λ m at. subst (λ (b : ℕ). n ≢ b) at.2 (different 0 (suc at.0) m (omega arith) (omega (arith, at.1))) in
    let rest = few_different ns (remove xs k) (λ i j d before inner. different (suc i) (suc j) d (omega arith) (omega arith))
    (λ m at. elim (Contains-cons_cases n (remove xs k) m (Contains-permutation xs (n ∷ remove xs k) m moved (within m (Contains-later n ns m at)))) [
      | inl same ↦ absurd (apart m at same)
      | inr there ↦ there
    ]) in
    omega (arith, rest, length_permutation xs (n ∷ remove xs k) moved)
