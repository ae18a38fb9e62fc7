-- A list that rises and has given members is one list.
use Rattle.std.proofs.Common.{◌≡◌, List, [], ◌∷◌, refl, sym, ap, ◌∙◌, subst, inl, inr}
use Rattle.std.specs.Prelude.{Contains}
use Rattle.std.specs.declared.cmp.Ordering.{Ordering}
use Rattle.std.specs.declared.cmp.Ordering.TheVariants.{Less}
use Rattle.std.specs.Ordering.{ordering_reverse}
use Rattle.std.specs.Cmp.{IsTotalOrder}
use Rattle.std.specs.List.{AllByRecursion}
use Rattle.std.specs.List.Sorted.{IsStrictlySortedBy}
use Rattle.std.proofs.lemmas.List.Elements.{All-from_recursion, All-contains}
use Rattle.venue_types.proofs.Items.{Contains-nil, Contains-first, Contains-later, Contains-cons_cases}
use Rattle.rule_reports.specs.Reports.{Lists}

below_all : {X : Type 0} (cmp : X → X → Ordering) (x : X) (xs : List X) (z : X) → AllByRecursion (λ y. cmp x y ≡ Less) xs → Contains xs z → cmp x z ≡ Less
below_all cmp x xs z all h = All-contains (λ y. cmp x y ≡ Less) xs z (All-from_recursion (λ y. cmp x y ≡ Less) xs all) h

not_both : {X : Type 0} (cmp : X → X → Ordering) → IsTotalOrder cmp → (x y : X) → cmp x y ≡ Less → cmp y x ≡ Less → ⊥
not_both cmp total x y below above = let e : Less ≡ ordering_reverse Less = sym below ∙ total.antisymm x y ∙ ap ordering_reverse above in cc

-- the first items of two such lists are one
heads : {X : Type 0} (cmp : X → X → Ordering) → IsTotalOrder cmp → (x : X) (xs : List X) (y : X) (ys : List X)
    → AllByRecursion (λ z. cmp x z ≡ Less) xs → AllByRecursion (λ z. cmp y z ≡ Less) ys → Contains (y ∷ ys) x → Contains (x ∷ xs) y → x ≡ y
heads cmp total x xs y ys up up' into back =
    elim (Contains-cons_cases y ys x into) [
      | inl same ↦ sym same
      | inr x_later ↦
          elim (Contains-cons_cases x xs y back) [
            | inl same ↦ same
            | inr y_later ↦ absurd (not_both cmp total x y (below_all cmp x xs y up y_later) (below_all cmp y ys x up' x_later))
          ]
    ]

-- what stands in the rest of one stands in the rest of the other
rest_into : {X : Type 0} (cmp : X → X → Ordering) → IsTotalOrder cmp → (x : X) (xs : List X) (y : X) (ys : List X) → x ≡ y → AllByRecursion (λ z. cmp x z ≡ Less) xs
    → ((z : X) → Contains (x ∷ xs) z → Contains (y ∷ ys) z) → (z : X) → Contains xs z → Contains ys z
rest_into cmp total x xs y ys e up into z h =
    elim (Contains-cons_cases y ys z (into z (Contains-later x xs z h))) [
      | inl same ↦
          let itself : cmp x x ≡ Less = subst (λ w. cmp x w ≡ Less) (sym (e ∙ same)) (below_all cmp x xs z up h) in
          absurd (not_both cmp total x x itself itself)
      | inr there ↦ there
    ]

-- two lists that rise and have the same members are one
pub same_members : {X : Type 0} (cmp : X → X → Ordering) → IsTotalOrder cmp → (xs ys : List X) → IsStrictlySortedBy cmp xs → IsStrictlySortedBy cmp ys
    → ((z : X) → Contains xs z → Contains ys z) → ((z : X) → Contains ys z → Contains xs z) → xs ≡ ys
unfolding IsStrictlySortedBy
same_members cmp total [] [] up up' into back = refl
same_members cmp total [] (y ∷ ys) up up' into back = absurd (Contains-nil y (back y (Contains-first y ys)))
same_members cmp total (x ∷ xs) [] up up' into back = absurd (Contains-nil x (into x (Contains-first x xs)))
same_members {X} cmp total (x ∷ xs) (y ∷ ys) up up' into back =
    let e = heads cmp total x xs y ys up.0 up'.0 (into x (Contains-first x xs)) (back y (Contains-first y ys)) in
    let rest = same_members cmp total xs ys up.1 up'.1 (rest_into cmp total x xs y ys e up.0 into) (rest_into cmp total y ys x xs (sym e) up'.0 back) in
    ap (λ (h : X). h ∷ xs) e ∙ ap (λ (t : List X). y ∷ t) rest

-- a property has one list at most
pub one_list : {X : Type 0} (cmp : X → X → Ordering) → IsTotalOrder cmp → (P : X → Type 0) (xs ys : List X) → Lists cmp P xs → Lists cmp P ys → xs ≡ ys
one_list cmp total P xs ys one other =
    same_members cmp total xs ys one.rises other.rises (λ z h. other.whole z (one.only z h)) (λ z h. one.whole z (other.only z h))
