-- What a pass adds, put together from what its parts add.
use Rattle.std.proofs.Common.{◌≡◌, ℕ, ◌+◌, ◌<◌, ◌≤◌, List, ◌++◌, Option, Some, Bool, true, length, sym, subst, arith, ◌⊎◌, inl, inr, Result, Ok, Err}
use Rattle.std.specs.Prelude.{Contains, slice_get}
use Rattle.std.specs.Result.{OnOk}
use Rattle.std.proofs.lemmas.Option.{slice_get_within}
use Rattle.std.proofs.lemmas.Bool.{cases_lt}
use Rattle.std.proofs.lemmas.List.Elements.{Contains-append_left, Contains-append_right, Contains-append_cases}
use Rattle.rule_reports.specs.Passes.{found, Adds}
use Rattle.rule_reports.proofs.Passes.{Contains-found}

-- what holds where it went well
pub on_ok : {T E : Type 0} (r : Result T E) (P Q : Type 0) → OnOk r P → (P → Q) → OnOk r Q
on_ok (Ok x) P Q h f = f h
on_ok (Err e) P Q h f = tt

pub Adds-none : {A : Type 0} (xs : List A) → Adds (λ (x : A). ⊥) xs xs
Adds-none xs = record { kept = λ x h. h; only = λ x h. inl h; whole = λ x h. absurd h }

-- one property in place of another that holds of the same
pub Adds-same : {A : Type 0} {P : A → Type 0} (Q : A → Type 0) {old new : List A} → Adds P old new → ((x : A) → P x → Q x) → ((x : A) → Q x → P x) → Adds Q old new
Adds-same Q adds into back = record {
  kept = adds.kept;
  only = λ x h. elim (adds.only x h) [ inl was ↦ inl was | inr has ↦ inr (into x has) ];
  whole = λ x h. adds.whole x (back x h);
}

-- a test that decides a fact about one place
pub Adds-found : {A : Type 0} (P : A → Type 0) (holds : Bool) (place : A) (old new : List A) → new ≡ old ++ found holds place
    → (holds ≡ true → P place) → ((x : A) → P x → (holds ≡ true) × (x ≡ place)) → Adds P old new
Adds-found {A} P holds place old new is into back = record {
  kept = λ x h. subst (λ (xs : List A). Contains xs x) (sym is) (Contains-append_left old (found holds place) x h);
  only = λ x h. elim (Contains-append_cases old (found holds place) x (subst (λ (xs : List A). Contains xs x) is h)) [
    | inl was ↦ inl was
    | inr here ↦ let at = (Contains-found holds place x).0 here in inr (subst P at.1 (into at.0))
  ];
  whole = λ x h. let at = back x h in
      subst (λ (xs : List A). Contains xs x) (sym is) (Contains-append_right old (found holds place) x ((Contains-found holds place x).1 (at.0, sym at.1)));
}

-- one pass after another
pub Adds-then : {A : Type 0} {P Q : A → Type 0} (R : A → Type 0) {a b c : List A} → Adds P a b → Adds Q b c
    → ((x : A) → P x → R x) → ((x : A) → Q x → R x) → ((x : A) → R x → P x ⊎ Q x) → Adds R a c
Adds-then R one other first second split = record {
  kept = λ x h. other.kept x (one.kept x h);
  only = λ x h. elim (other.only x h) [
    | inl was ↦ elim (one.only x was) [ inl old ↦ inl old | inr has ↦ inr (first x has) ]
    | inr has ↦ inr (second x has)
  ];
  whole = λ x h. elim (split x h) [ inl has ↦ other.kept x (one.whole x has) | inr has ↦ other.whole x has ];
}

-- it is due to an item before the n-th
pub record Below {X A : Type 0} (P : ℕ → X → A → Type 0) (xs : List X) (n : ℕ) (y : A) : Type 0 where
  pub place : ℕ
  pub item : X
  pub under : place < n
  pub there : slice_get xs place ≡ Some item
  pub holds : P place item y

-- it is due to an item
pub record Among {X A : Type 0} (P : ℕ → X → A → Type 0) (xs : List X) (y : A) : Type 0 where
  pub place : ℕ
  pub item : X
  pub there : slice_get xs place ≡ Some item
  pub holds : P place item y

pub Adds-start : {X A : Type 0} (P : ℕ → X → A → Type 0) (xs : List X) (ys : List A) → Adds (Below P xs 0) ys ys
Adds-start P xs ys = record {
  kept = λ x h. h;
  only = λ x h. inl h;
  whole = λ x h. absurd (omega (arith, h.under));
}

some_item : {X : Type 0} (o : Option X) (x y : X) → o ≡ Some x → o ≡ Some y → x ≡ y
some_item o x y a b = cc

-- an item before the next place is one before, or the one there
below_split : {X A : Type 0} (P : ℕ → X → A → Type 0) (xs : List X) (n : ℕ) (x : X) → slice_get xs n ≡ Some x → (y : A) → Below P xs (n + 1) y → Below P xs n y ⊎ P n x y
below_split {X} {A} P xs n x at y h = elim (cases_lt h.place n) [
  | inl before ↦ inl (record { place = h.place; item = h.item; under = before; there = h.there; holds = h.holds })
  | inr not_before ↦
      let here : h.place ≡ n = omega (arith, h.under) in
      let there : slice_get xs n ≡ Some h.item = subst (λ (k : ℕ). slice_get xs k ≡ Some h.item) here h.there in
      let same : h.item ≡ x = some_item (slice_get xs n) h.item x there at in
      inr (subst (λ (w : X). P n w y) same (subst (λ (k : ℕ). P k h.item y) here h.holds))
]

-- one item more
pub Adds-step : {X A : Type 0} (P : ℕ → X → A → Type 0) (xs : List X) (n : ℕ) (x : X) {a b c : List A} → slice_get xs n ≡ Some x
    → Adds (Below P xs n) a b → Adds (P n x) b c → Adds (Below P xs (n + 1)) a c
Adds-step {X} {A} P xs n x at before here =
    Adds-then (Below P xs (n + 1)) before here
    (λ y h. record { place = h.place; item = h.item; under = omega (arith, h.under); there = h.there; holds = h.holds })
    (λ y h. record { place = n; item = x; under = omega arith; there = at; holds = h })
    (below_split P xs n x at)

-- all items
pub Adds-end : {X A : Type 0} (P : ℕ → X → A → Type 0) (xs : List X) (n : ℕ) {a b : List A} → length xs ≤ n → Adds (Below P xs n) a b → Adds (Among P xs) a b
Adds-end P xs n long adds = Adds-same (Among P xs) adds
    (λ y h. record { place = h.place; item = h.item; there = h.there; holds = h.holds })
    (λ y h. let within : h.place < length xs = slice_get_within xs h.place h.item h.there in
    record { place = h.place; item = h.item; under = omega arith; there = h.there; holds = h.holds })
