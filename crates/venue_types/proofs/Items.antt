-- Items of lists by their places, what stands in a list, and numbers that rise.
use Rattle.std.proofs.Common.{◌≡◌, ◌∙◌, ℕ, ◌+◌, ◌<◌, List, [], ◌∷◌, ◌++◌, Some, None, zero, suc, length, map, get_or, refl, sym, ap, subst, arith, ◌⊎◌, inl, inr}
use Rattle.std.specs.Prelude.{Contains, slice_get, ◌↔◌}
use Rattle.std.specs.List.{flat_map}
use Rattle.std.specs.List.Sorted.{IsStrictlyIncreasing}
use Rattle.std.specs.Option.{option_map}
use Rattle.std.proofs.lemmas.Bool.{cases_lt}
use Rattle.std.proofs.lemmas.List.{length-append, get_or_append_left, get_or_push}
use Rattle.std.proofs.lemmas.List.Elements.{Contains-append_left, Contains-append_right, Contains-append_cases}
use Rattle.std.proofs.lemmas.Option.{slice_get_within, slice_get_read, slice_get-map, get_or_from_slice_get, same_Some}

-- a value that stands somewhere in the list is its item there, and back
pub at_member : {X : Type 0} (xs : List X) (x : X) → Contains xs x → (k : ℕ) × (slice_get xs k ≡ Some x)
at_member xs x h = (h.0, slice_get_read xs (length xs) h.0 x refl h.1 (sym h.2))

pub member_at : {X : Type 0} (xs : List X) (k : ℕ) (x : X) → slice_get xs k ≡ Some x → Contains xs x
member_at xs k x e = (k, slice_get_within xs k x e, get_or_from_slice_get xs k x x e)

-- the item of a list that is seen in another way
pub at_map : {X Y : Type 0} (f : X → Y) (xs : List X) (k : ℕ) (x : X) → slice_get xs k ≡ Some x → slice_get (map f xs) k ≡ Some (f x)
at_map f xs k x e = slice_get-map f xs k ∙ ap (option_map f) e

-- an item of a mapped list comes from one at its place
pub from_map : {X Y : Type 0} (f : X → Y) (xs : List X) (k : ℕ) (y : Y) → slice_get (map f xs) k ≡ Some y → (x : X) × (slice_get xs k ≡ Some x) × (f x ≡ y)
from_map f [] k y e = absurd (let no : None ≡ Some y = e in cc)
from_map f (x ∷ xs) zero y e = (x, refl, same_Some (f x) y e)
from_map f (x ∷ xs) (suc k) y e = from_map f xs k y e

-- what stands in a list of few items, and in one with one item more at its front
pub Contains-nil : {X : Type 0} (x : X) → Contains [] x → ⊥
Contains-nil x h = omega (arith, h.1)

pub Contains-only : {X : Type 0} (x y : X) → Contains (x ∷ []) y → x ≡ y
Contains-only x y (zero, below, is) = is
Contains-only x y (suc k, below, is) = absurd (omega arith)

pub Contains-first : {X : Type 0} (x : X) (xs : List X) → Contains (x ∷ xs) x
Contains-first x xs = (0, omega arith, refl)

pub Contains-later : {X : Type 0} (x : X) (xs : List X) (z : X) → Contains xs z → Contains (x ∷ xs) z
Contains-later x xs z h = Contains-append_right (x ∷ []) xs z h

pub Contains-cons_cases : {X : Type 0} (x : X) (xs : List X) (z : X) → Contains (x ∷ xs) z → (x ≡ z) ⊎ Contains xs z
Contains-cons_cases x xs z h = elim (Contains-append_cases (x ∷ []) xs z h) [ inl here ↦ inl (Contains-only x z here) | inr there ↦ inr there ]

flat_map_only : {X A : Type 0} (find : X → List A) (xs : List X) (y : A) → Contains (flat_map find xs) y → (x : X) × Contains xs x × Contains (find x) y
flat_map_only find [] y h = absurd (Contains-nil y h)
flat_map_only find (x ∷ xs) y h =
    elim (Contains-append_cases (find x) (flat_map find xs) y h) [
      | inl here ↦ (x, Contains-first x xs, here)
      | inr there ↦
          let rest = flat_map_only find xs y there in
          (rest.0, Contains-later x xs rest.0 rest.1, rest.2)
    ]

flat_map_whole : {X A : Type 0} (find : X → List A) (xs : List X) (x : X) (y : A) → Contains xs x → Contains (find x) y → Contains (flat_map find xs) y
flat_map_whole find [] x y at h = absurd (Contains-nil x at)
flat_map_whole find (z ∷ xs) x y at h =
    elim (Contains-cons_cases z xs x at) [
      | inl here ↦ Contains-append_left (find z) (flat_map find xs) y (subst (λ w. Contains (find w) y) (sym here) h)
      | inr there ↦ Contains-append_right (find z) (flat_map find xs) y (flat_map_whole find xs x y there h)
    ]

-- a list of lists, put together, has what one of them has
pub Contains-flat_map : {X A : Type 0} (find : X → List A) (xs : List X) (y : A) → Contains (flat_map find xs) y ↔ ((x : X) × Contains xs x × Contains (find x) y)
Contains-flat_map find xs y = ((λ h. flat_map_only find xs y h), (λ h. flat_map_whole find xs h.0 y h.1 h.2))

-- numbers that rise, and behind them one above all
pub IsStrictlyIncreasing-push : (xs : List ℕ) (n : ℕ) → IsStrictlyIncreasing xs → ((i : ℕ) → i < length xs → get_or xs i 0 < n) → IsStrictlyIncreasing (xs ++ n ∷ [])
IsStrictlyIncreasing-push xs n rise under i within =
    let whole : length (xs ++ n ∷ []) ≡ length xs + 1 = length-append xs (n ∷ []) in
    elim (cases_lt (i + 1) (length xs)) [
      | inl inside ↦
          let a : get_or (xs ++ n ∷ []) i 0 ≡ get_or xs i 0 = get_or_append_left xs (n ∷ []) 0 i (omega arith) in
          let b : get_or (xs ++ n ∷ []) (i + 1) 0 ≡ get_or xs (i + 1) 0 = get_or_append_left xs (n ∷ []) 0 (i + 1) inside in
          let less : get_or xs i 0 < get_or xs (i + 1) 0 = rise i inside in
          omega (arith, a, b, less)
      | inr past ↦
          let last : length xs ≡ i + 1 = omega (arith, within, whole) in
          let a : get_or (xs ++ n ∷ []) i 0 ≡ get_or xs i 0 = get_or_append_left xs (n ∷ []) 0 i (omega arith) in
          let b : get_or (xs ++ n ∷ []) (i + 1) 0 ≡ n = get_or_push xs n 0 (i + 1) last in
          let less : get_or xs i 0 < n = under i (omega arith) in
          omega (arith, a, b, less)
    ]
