-- Items of lists by their places, where each stands once.
use Rattle.std.proofs.Common.{◌≡◌, ◌≢◌, ℕ, zero, suc, ◌<◌, List, [], ◌∷◌, length, Some, refl, sym, ◌∙◌, inl, inr, arith}
use Rattle.std.specs.Prelude.{AllPairs, slice_get}
use Rattle.std.specs.List.Sorted.{IsStrictlyIncreasing}
use Rattle.std.proofs.lemmas.Bool.{cases_order}
use Rattle.std.proofs.lemmas.List.Kept.{AllPairs-from_increasing}
use Rattle.std.proofs.lemmas.Option.{slice_get_within, get_or_from_slice_get}

pub at_place : {X : Type 0} (xs : List X) (n : ℕ) → n < length xs → (x : X) × (slice_get xs n ≡ Some x)
at_place [] n h = absurd (omega (arith, h))
at_place (x ∷ xs) zero h = (x, refl)
at_place (x ∷ xs) (suc n) h = at_place xs n (omega (arith, h))

-- ---- items that differ

not_behind : {X : Type 0} (xs : List X) (j k : ℕ) (x : X) → AllPairs (λ a b. a ≢ b) xs → j < k → slice_get xs j ≡ Some x → slice_get xs k ≡ Some x → ⊥
not_behind xs j k x once below first second =
    once j k x below (slice_get_within xs k x second) (get_or_from_slice_get xs j x x first ∙ sym (get_or_from_slice_get xs k x x second))

pub same_place : {X : Type 0} (xs : List X) (j k : ℕ) (x : X) → AllPairs (λ a b. a ≢ b) xs → slice_get xs j ≡ Some x → slice_get xs k ≡ Some x → j ≡ k
same_place xs j k x once first second = elim (cases_order j k) [
  | inl same ↦ same
  | inr other ↦ elim other [
    | inl below ↦ absurd (not_behind xs j k x once below first second)
    | inr above ↦ absurd (not_behind xs k j x once above second first)
  ]
]

-- ---- numbers that rise

pub rising_apart : (xs : List ℕ) → IsStrictlyIncreasing xs → AllPairs (λ a b. a ≢ b) xs
rising_apart xs rise = λ i j d below within same. let less = AllPairs-from_increasing xs rise i j d below within in omega (arith, less, same)
