-- What stands in lists that are made of lists.
use Rattle.std.proofs.Common.{◌≡◌, ℕ, ◌+◌, zero, suc, Bool, true, false, cond, IsTrue, List, [], ◌∷◌, filter, flat_map, Some, None, refl, sym, ap, subst, ◌⊎◌, inl, inr, true≢false, arith}
use Rattle.std.specs.Prelude.{Contains, slice_get}
use Rattle.std.specs.List.{enumerate_from}
use Rattle.std.proofs.lemmas.List.Elements.{Contains-append_left, Contains-append_right, Contains-append_cases}
use Rattle.std.proofs.lemmas.Option.{same_Some}
use Rattle.rule_reports.proofs.Members.{Contains-nil, Contains-first, Contains-later, Contains-cons_cases}

-- ---- lists joined

pub from_flat_map : {X Y : Type 0} (f : X → List Y) (xs : List X) (y : Y) → Contains (flat_map f xs) y → (x : X) × Contains xs x × Contains (f x) y
from_flat_map f [] y h = absurd (Contains-nil y h)
from_flat_map f (x ∷ xs) y h = elim (Contains-append_cases (f x) (flat_map f xs) y h) [
  | inl here ↦ (x, Contains-first x xs, here)
  | inr there ↦ let rest = from_flat_map f xs y there in (rest.0, Contains-later x xs rest.0 rest.1, rest.2)
]

pub to_flat_map : {X Y : Type 0} (f : X → List Y) (xs : List X) (x : X) (y : Y) → Contains xs x → Contains (f x) y → Contains (flat_map f xs) y
to_flat_map f [] x y h k = absurd (Contains-nil x h)
to_flat_map f (z ∷ xs) x y h k = elim (Contains-cons_cases z xs x h) [
  | inl here ↦ Contains-append_left (f z) (flat_map f xs) y (subst (λ w. Contains (f w) y) (sym here) k)
  | inr there ↦ Contains-append_right (f z) (flat_map f xs) y (to_flat_map f xs x y there k)
]

-- ---- items with their numbers

pub from_enumerate : {X : Type 0} (n : ℕ) (xs : List X) (row : ℕ × X) → Contains (enumerate_from n xs) row → (k : ℕ) × (slice_get xs k ≡ Some row.1) × (row.0 ≡ n + k)
from_enumerate n [] row h = absurd (Contains-nil row h)
from_enumerate n (x ∷ xs) row h = elim (Contains-cons_cases (n, x) (enumerate_from (n + 1) xs) row h) [
  | inl here ↦ (0, ap (λ r. Some r.1) here, let same : n ≡ row.0 = ap (λ r. r.0) here in omega (arith, same))
  | inr there ↦ let rest = from_enumerate (n + 1) xs row there in (suc rest.0, rest.1, let is : row.0 ≡ n + 1 + rest.0 = rest.2 in omega (arith, is))
]

pub to_enumerate : {X : Type 0} (n : ℕ) (xs : List X) (k : ℕ) (x : X) (m : ℕ) → m ≡ n + k → slice_get xs k ≡ Some x → Contains (enumerate_from n xs) (m, x)
to_enumerate n [] k x m e h = absurd (let no : None ≡ Some x = h in cc)
to_enumerate n (y ∷ xs) zero x m e h =
    let same : n ≡ m = omega (arith, e) in
    subst (λ i. Contains (enumerate_from n (y ∷ xs)) (i, x)) same (subst (λ z. Contains (enumerate_from n (y ∷ xs)) (n, z)) (same_Some y x h) (Contains-first (n, y) (enumerate_from (n + 1) xs)))
to_enumerate n (y ∷ xs) (suc k) x m e h =
    let on : m ≡ n + 1 + k = omega (arith, e) in
    Contains-later (n, y) (enumerate_from (n + 1) xs) (m, x) (to_enumerate (n + 1) xs k x m on h)

-- ---- lists chosen by a test

pub from_then : {Y : Type 0} (b : Bool) (ys : List Y) (y : Y) → Contains (cond b ys []) y → (b ≡ true) × Contains ys y
from_then true ys y h = (refl, h)
from_then false ys y h = absurd (Contains-nil y h)

pub to_then : {Y : Type 0} (b : Bool) (ys : List Y) (y : Y) → b ≡ true → Contains ys y → Contains (cond b ys []) y
to_then true ys y e h = h
to_then false ys y e h = absurd (true≢false (sym e))

pub from_else : {Y : Type 0} (b : Bool) (ys : List Y) (y : Y) → Contains (cond b [] ys) y → (b ≡ false) × Contains ys y
from_else true ys y h = absurd (Contains-nil y h)
from_else false ys y h = (refl, h)

-- ---- items that pass a test

kept_cases : {X : Type 0} (b : Bool) (x : X) (ys : List X) (y : X) → Contains (cond b (x ∷ ys) ys) y → ((b ≡ true) × (x ≡ y)) ⊎ Contains ys y
kept_cases true x ys y h = elim (Contains-cons_cases x ys y h) [ inl here ↦ inl (refl, here) | inr there ↦ inr there ]
kept_cases false x ys y h = inr h

kept_first : {X : Type 0} (b : Bool) (x : X) (ys : List X) → b ≡ true → Contains (cond b (x ∷ ys) ys) x
kept_first true x ys e = Contains-first x ys
kept_first false x ys e = absurd (true≢false (sym e))

kept_later : {X : Type 0} (b : Bool) (x : X) (ys : List X) (y : X) → Contains ys y → Contains (cond b (x ∷ ys) ys) y
kept_later true x ys y h = Contains-later x ys y h
kept_later false x ys y h = h

pub from_filter : {X : Type 0} (test : X → Bool) (xs : List X) (y : X) → Contains (filter test xs) y → Contains xs y × IsTrue (test y)
from_filter test [] y h = absurd (Contains-nil y h)
from_filter test (x ∷ xs) y h = elim (kept_cases (test x) x (filter test xs) y h) [
  | inl here ↦ (subst (λ z. Contains (x ∷ xs) z) here.1 (Contains-first x xs), subst (λ z. IsTrue (test z)) here.1 here.0)
  | inr there ↦ let rest = from_filter test xs y there in (Contains-later x xs y rest.0, rest.1)
]

pub to_filter : {X : Type 0} (test : X → Bool) (xs : List X) (y : X) → Contains xs y → IsTrue (test y) → Contains (filter test xs) y
to_filter test [] y h k = absurd (Contains-nil y h)
to_filter test (x ∷ xs) y h k = elim (Contains-cons_cases x xs y h) [
  | inl here ↦ subst (λ z. Contains (filter test (x ∷ xs)) z) here (kept_first (test x) x (filter test xs) (subst (λ z. IsTrue (test z)) (sym here) k))
  | inr there ↦ kept_later (test x) x (filter test xs) y (to_filter test xs y there k)
]
