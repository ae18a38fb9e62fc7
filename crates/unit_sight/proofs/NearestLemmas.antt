-- The nearest of some members.
use Rattle.std.proofs.Common.{◌≡◌, ◌⊎◌, ◌↔◌, ℕ, ◌<◌, ◌≤◌, suc, true, false, ◌&&◌, ◌==◌, nat_lt, List, [], ◌∷◌, length, Option, Some, None, All, refl, sym, ap, subst, ◌∙◌, arith, inl, inr}
use Rattle.std.specs.Prelude.{Contains, MatchOption}
use Rattle.std.proofs.lemmas.Bool.{cases_order, cond_both, or_cases, or_left, or_right, and_parts, and_from, ltb-true, lt-ltb, eqb-true, eq-eqb}
use Rattle.std.proofs.lemmas.List.Elements.{All-cons, All-contains, All-nil}
use Rattle.unit_sight.specs.Joined.{is_nearer, nearer, nearest}

-- ---- which of two is nearer

-- b is less far than c, or as far and no greater
abbrev pub IsNoFurther : (ℕ → ℕ) → ℕ → ℕ → Type 0
IsNoFurther far b c = (far b < far c) ⊎ ((far b ≡ far c) × (b ≤ c))

-- what the test tells
pub nearer_true : (far : ℕ → ℕ) (b c : ℕ) → is_nearer far b c ≡ true → IsNoFurther far b c × ¬ (b ≡ c)
nearer_true far b c h = elim (or_cases (nat_lt (far b) (far c)) ((far b == far c) && nat_lt b c) h) [
  | inl less ↦ (let lower : far b < far c = ltb-true (far b) (far c) less in (inl lower, λ same. let level = ap far same in omega arith))
  | inr tie ↦
      let both = and_parts (far b == far c) (nat_lt b c) tie in
      let level : far b ≡ far c = eqb-true (far b) (far c) both.0 in
      let before : b < c = ltb-true b c both.1 in
      (inr (level, omega arith), λ same. omega arith)
]

nearer_from_less : (far : ℕ → ℕ) (b c : ℕ) → far b < far c → is_nearer far b c ≡ true
nearer_from_less far b c h = or_left (nat_lt (far b) (far c)) ((far b == far c) && nat_lt b c) (lt-ltb (far b) (far c) h)

nearer_from_tie : (far : ℕ → ℕ) (b c : ℕ) → far b ≡ far c → b < c → is_nearer far b c ≡ true
nearer_from_tie far b c level before =
    or_right (nat_lt (far b) (far c)) ((far b == far c) && nat_lt b c)
    (and_from (far b == far c) (nat_lt b c) (eq-eqb (far b) (far c) level) (lt-ltb b c before))

pub nearer_false : (far : ℕ → ℕ) (b c : ℕ) → is_nearer far b c ≡ false → IsNoFurther far c b
nearer_false far b c h = elim (cases_order (far b) (far c)) [
  | inl level ↦ elim (cases_order b c) [
    | inl same ↦ inr (sym level, omega arith)
    | inr (inl before) ↦ absurd (let is = nearer_from_tie far b c level before in cc)
    | inr (inr behind) ↦ inr (sym level, omega arith)
  ]
  | inr (inl less) ↦ absurd (let is = nearer_from_less far b c less in cc)
  | inr (inr more) ↦ inl more
]

no_further_itself : (far : ℕ → ℕ) (b : ℕ) → IsNoFurther far b b
no_further_itself far b = inr (refl, omega arith)

no_further_chain : (far : ℕ → ℕ) (b c d : ℕ) → IsNoFurther far b c → IsNoFurther far c d → IsNoFurther far b d
no_further_chain far b c d one two = elim one [
  | inl less ↦ elim two [ inl more ↦ inl (omega arith) | inr (level, upto) ↦ inl (omega arith) ]
  | inr (level, upto) ↦ elim two [ inl more ↦ inl (omega arith) | inr (level', upto') ↦ inr (level ∙ level', omega arith) ]
]

no_further_both : (far : ℕ → ℕ) (b c : ℕ) → IsNoFurther far b c → IsNoFurther far c b → b ≡ c
no_further_both far b c one two = elim one [
  | inl less ↦ elim two [ inl more ↦ absurd (omega arith) | inr (level, upto) ↦ absurd (omega arith) ]
  | inr (level, upto) ↦ elim two [ inl more ↦ absurd (omega arith) | inr (level', upto') ↦ omega arith ]
]

-- ---- the nearest

-- b is a member, and no member is nearer
pub record IsFirst (far : ℕ → ℕ) (xs : List ℕ) (b : ℕ) : Type 0 where
  pub has : Contains xs b
  pub least : All (IsNoFurther far b) xs

first_alone : (far : ℕ → ℕ) (x : ℕ) → IsFirst far (x ∷ []) x
first_alone far x = record {
  has = (0, omega arith, refl);
  least = All-cons (IsNoFurther far x) x [] (no_further_itself far x) (All-nil (IsNoFurther far x));
}

-- a member that is no further than the first is the first
pub first_lower : (far : ℕ → ℕ) (xs : List ℕ) (b c : ℕ) → All (IsNoFurther far b) xs → IsNoFurther far c b → All (IsNoFurther far c) xs
first_lower far xs b c all less k d within = no_further_chain far c b _ less (all k d within)

pub first_one : (far : ℕ → ℕ) (xs : List ℕ) (b c : ℕ) → IsFirst far xs b → IsFirst far xs c → b ≡ c
first_one far xs b c one two =
    no_further_both far b c (All-contains (IsNoFurther far b) xs c one.least two.has) (All-contains (IsNoFurther far c) xs b two.least one.has)

-- one member more in front
first_cons : (far : ℕ → ℕ) (x : ℕ) (rest : List ℕ) (o : Option ℕ) → MatchOption o (rest ≡ []) (IsFirst far rest) → IsFirst far (x ∷ rest) (nearer far x o)
first_cons far x rest None empty = subst (λ (ys : List ℕ). IsFirst far (x ∷ ys) x) (sym empty) (first_alone far x)
first_cons far x rest (Some c) first =
    cond_both (is_nearer far c x) c x (IsFirst far (x ∷ rest))
    (λ h. record {
      has = (suc first.has.0, omega (arith, first.has.1), first.has.2);
      least = All-cons (IsNoFurther far c) x rest (nearer_true far c x h).0 first.least;
    })
    (λ h. record {
      has = (0, omega arith, refl);
      least = All-cons (IsNoFurther far x) x rest (no_further_itself far x) (first_lower far rest c x first.least (nearer_false far c x h));
    })

pub nearest_is : (far : ℕ → ℕ) (xs : List ℕ) → MatchOption (nearest far xs) (xs ≡ []) (IsFirst far xs)
nearest_is far [] = refl
nearest_is far (x ∷ rest) = first_cons far x rest (nearest far rest) (nearest_is far rest)

is_that_first : (far : ℕ → ℕ) (xs : List ℕ) (b : ℕ) (o : Option ℕ) → MatchOption o (xs ≡ []) (IsFirst far xs) → IsFirst far xs b → o ≡ Some b
is_that_first far xs b None empty first = absurd (let long = ap length empty in omega (arith, first.has.1))
is_that_first far xs b (Some c) other first = ap Some (first_one far xs c b other first)

-- exactly one member is the nearest: the first by length and then by number
pub nearest_first : (far : ℕ → ℕ) (xs : List ℕ) (b : ℕ) → (nearest far xs ≡ Some b) ↔ IsFirst far xs b
nearest_first far xs b = (
  (λ e. subst (λ (o : Option ℕ). MatchOption o (xs ≡ []) (IsFirst far xs)) e (nearest_is far xs)),
  (λ first. is_that_first far xs b (nearest far xs) (nearest_is far xs) first),
)

-- there is none only where there is no member
pub nearest_none : (far : ℕ → ℕ) (xs : List ℕ) → (nearest far xs ≡ None) ↔ (xs ≡ [])
nearest_none far xs = (
  (λ e. subst (λ (o : Option ℕ). MatchOption o (xs ≡ []) (IsFirst far xs)) e (nearest_is far xs)),
  (λ empty. ap (nearest far) empty),
)
