-- Items of lists by their places.
use Rattle.std.proofs.Common.{◌≡◌, ℕ, ◌+◌, ◌<◌, ◌≤◌, zero, suc, List, [], ◌∷◌, ◌++◌, Some, None, length, get_or, take, drop, refl, sym, ap, subst, ◌∙◌, arith, ◌⊎◌, inl, inr}
use Rattle.std.specs.Prelude.{Contains, slice_get, AllPairs}
use Rattle.std.proofs.lemmas.List.{length-take, length-drop, get_or-take, get_or-drop, get_or_default, take_more}
use Rattle.std.proofs.lemmas.Bool.{cases_lt}
use Rattle.std.proofs.lemmas.Option.{slice_get_read, same_Some}
use Rattle.venue_types.proofs.Items.{Contains-nil}

pub item_at : {X : Type 0} (xs : List X) (k : ℕ) (x : X) → k < length xs → x ≡ get_or xs k x → slice_get xs k ≡ Some x
item_at xs k x within is = slice_get_read xs (length xs) k x refl within is

-- there is an item
pub some_at : {X : Type 0} (xs : List X) (k : ℕ) → k < length xs → (x : X) × (slice_get xs k ≡ Some x)
some_at [] k within = absurd (omega arith)
some_at (x ∷ xs) zero within = (x, refl)
some_at (x ∷ xs) (suc k) within = some_at xs k (omega arith)

pub at_push : {X : Type 0} (xs : List X) (x : X) (k : ℕ) (y : X) → slice_get (xs ++ x ∷ []) k ≡ Some y → (slice_get xs k ≡ Some y) ⊎ ((k ≡ length xs) × (x ≡ y))
at_push [] x zero y e = inr (refl, same_Some x y e)
at_push [] x (suc k) y e = absurd (let c : None ≡ Some y = e in cc)
at_push (z ∷ xs) x zero y e = inl e
at_push (z ∷ xs) x (suc k) y e = elim (at_push xs x k y e) [ inl there ↦ inl there | inr end ↦ inr (omega (arith, end.0), end.1) ]

-- the first items, and one more
pub one_more : {X : Type 0} (xs : List X) (i : ℕ) (x : X) → i < length xs → x ≡ get_or xs i x → take (i + 1) xs ≡ take i xs ++ x ∷ []
one_more {X} xs i x within is = take_more xs i x within ∙ ap (λ (y : X). take i xs ++ y ∷ []) (sym is)

-- whether a number stands in a list
pub stands : (xs : List ℕ) (n : ℕ) → Contains xs n ⊎ (¬ Contains xs n)
stands xs n = from_end xs n where
  later : (x : ℕ) (xs : List ℕ) (n : ℕ) → Contains xs n → Contains (x ∷ xs) n
  later x xs n (k, within, at) = (suc k, omega (arith, within), at)

  from_end : (xs : List ℕ) (n : ℕ) → Contains xs n ⊎ (¬ Contains xs n)
  from_end [] n = inr (Contains-nil n)
  from_end (x ∷ xs) n = elim (from_end xs n) [
    | inl there ↦ inl (later x xs n there)
    | inr missing ↦ elim (cases_lt x n) [
      | inl less ↦ inr (other x xs n missing (λ same. omega (arith, less)))
      | inr no_less ↦ elim (cases_lt n x) [
        | inl more ↦ inr (other x xs n missing (λ same. omega (arith, more)))
        | inr no_more ↦ inl (0, omega arith, omega (arith, no_less, no_more))
      ]
    ]
  ] where
    other : (x : ℕ) (xs : List ℕ) (n : ℕ) → ¬ Contains xs n → (x ≡ n → ⊥) → ¬ Contains (x ∷ xs) n
    other x xs n missing apart (zero, within, at) = apart at
    other x xs n missing apart (suc k, within, at) = missing (k, omega (arith, within), at)

pub some_in : {X : Type 0} (xs : List X) → ¬ (xs ≡ []) → (x : X) × Contains xs x
some_in [] filled = absurd (filled refl)
some_in (x ∷ xs) filled = (x, (0, omega arith, refl))

-- ---- items that differ pairwise by a number

-- the item at hand differs from each in front of it
pub apart_before : {X : Type 0} (f : X → ℕ) (xs : List X) (i : ℕ) (x : X) → AllPairs (λ (a b : X). ¬ (f a ≡ f b)) xs → i < length xs → x ≡ get_or xs i x → (y : X) → Contains (take i xs) y → ¬ (f y ≡ f x)
apart_before {X} f xs i x pairs within is y (k, under, at) same =
    let front : k < i = omega (arith, under, length-take i xs) in
    let here : get_or xs k y ≡ y = sym (get_or-take i xs k y front) ∙ at in
    let there : get_or xs i y ≡ x = get_or_default xs i y x within ∙ sym is in
    pairs k i y front within (ap f here ∙ same ∙ sym (ap f there))

pub pairs_drop : {X : Type 0} (R : X → X → Type 0) (n : ℕ) (xs : List X) → AllPairs R xs → AllPairs R (drop n xs)
pairs_drop {X} R n xs pairs i j d under within =
    let far : n + j < length xs = omega (arith, within, length-drop n xs) in
    subst (λ (a : X). R a (get_or (drop n xs) j d)) (sym (get_or-drop n xs i d)) (subst (λ (b : X). R (get_or xs (n + i) d) b) (sym (get_or-drop n xs j d)) (pairs (n + i) (n + j) d (omega arith) far))

pub pairs_take : {X : Type 0} (R : X → X → Type 0) (n : ℕ) (xs : List X) → AllPairs R xs → AllPairs R (take n xs)
pairs_take {X} R n xs pairs i j d under within =
    let front : j < n = omega (arith, within, length-take n xs) in
    let far : j < length xs = omega (arith, within, length-take n xs) in
    subst (λ (a : X). R a (get_or (take n xs) j d)) (sym (get_or-take n xs i d (omega arith))) (subst (λ (b : X). R (get_or xs i d) b) (sym (get_or-take n xs j d front)) (pairs i j d under far))

pub all_past : {X : Type 0} (xs ys : List X) (k : ℕ) → xs ≡ ys → length xs ≤ k → length ys ≤ k
all_past {X} xs ys k same past = subst (λ (list : List X). length list ≤ k) same past
