-- Items of lists by their places.
use Rattle.std.proofs.Common.{◌≡◌, ℕ, zero, suc, Bool, true, false, cond, IsTrue, List, [], ◌∷◌, drop, filter, Some, None, refl, sym, subst, inl, inr, ◌⊎◌, true≢false}
use Rattle.std.specs.Prelude.{Contains, slice_get}
use Rattle.std.proofs.lemmas.Option.{same_Some}
use Rattle.venue_types.proofs.Items.{Contains-nil, Contains-first, Contains-later, Contains-cons_cases}

pub drop_at : {X : Type 0} (xs : List X) (k : ℕ) (x : X) → slice_get xs k ≡ Some x → drop k xs ≡ x ∷ drop (suc k) xs
drop_at [] k x e = absurd (let none : None ≡ Some x = e in cc)
drop_at (y ∷ xs) zero x e = subst (λ z. y ∷ xs ≡ z ∷ xs) (same_Some y x e) refl
drop_at (y ∷ xs) (suc k) x e = drop_at xs k x e

kept_cases : {X : Type 0} (b : Bool) (x : X) (ys : List X) (y : X) → Contains (cond b (x ∷ ys) ys) y → ((b ≡ true) × (x ≡ y)) ⊎ Contains ys y
kept_cases true x ys y h = elim (Contains-cons_cases x ys y h) [ inl here ↦ inl (refl, here) | inr there ↦ inr there ]
kept_cases false x ys y h = inr h

pub kept_first : {X : Type 0} (b : Bool) (x : X) (ys : List X) → b ≡ true → Contains (cond b (x ∷ ys) ys) x
kept_first true x ys e = Contains-first x ys
kept_first false x ys e = absurd (true≢false (sym e))

pub kept_later : {X : Type 0} (b : Bool) (x : X) (ys : List X) (y : X) → Contains ys y → Contains (cond b (x ∷ ys) ys) y
kept_later true x ys y h = Contains-later x ys y h
kept_later false x ys y h = h

pub from_filter : {X : Type 0} (test : X → Bool) (xs : List X) (y : X) → Contains (filter test xs) y → Contains xs y × IsTrue (test y)
from_filter test [] y h = absurd (Contains-nil y h)
from_filter test (x ∷ xs) y h = elim (kept_cases (test x) x (filter test xs) y h) [
  | inl here ↦ (subst (λ z. Contains (x ∷ xs) z) here.1 (Contains-first x xs), subst (λ z. IsTrue (test z)) here.1 here.0)
  | inr there ↦ let rest = from_filter test xs y there in (Contains-later x xs y rest.0, rest.1)
]
