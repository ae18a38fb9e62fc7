-- Being joined turns where sight does.
use Rattle.std.proofs.Common.{◌≡◌, ℕ, Bool, true, false, not, ◌&&◌, ◌||◌, ◌==◌, List, refl, sym, ap, ◌∙◌, inl, inr}
use Rattle.std.proofs.lemmas.Bool.{cases_eq, eq-eqb, ne_eqb}
use Rattle.unit_sight.specs.Joined.{is_guest_of, are_blind, is_joined}

pub equal_turned : (a b : ℕ) → (a == b) ≡ (b == a)
equal_turned a b = elim (cases_eq a b) [
  | inl same ↦ eq-eqb a b same ∙ sym (eq-eqb b a (sym same))
  | inr other ↦ ne_eqb a b other ∙ sym (ne_eqb b a (λ same. other (sym same)))
]

or_turned : (x y : Bool) → (x || y) ≡ (y || x)
or_turned true true = refl
or_turned true false = refl
or_turned false true = refl
or_turned false false = refl

pub joined_turned : (sees : ℕ → ℕ → Bool) (far : ℕ → ℕ → ℕ) (members : List ℕ) (a b : ℕ) → sees a b ≡ sees b a → is_joined sees far members a b ≡ is_joined sees far members b a
unfolding is_joined
joined_turned sees far members a b turns =
    let one = is_guest_of sees far members a b in
    let other = is_guest_of sees far members b a in
    let all = are_blind sees members in
    ap (λ (same : Bool). not same && (sees a b || ((one || other) || all))) (equal_turned a b)
    ∙ ap (λ (seen : Bool). not (b == a) && (seen || ((one || other) || all))) turns
    ∙ ap (λ (tied : Bool). not (b == a) && (sees b a || (tied || all))) (or_turned one other)
