-- A search for one node.
use Rattle.std.proofs.Common.{◌≡◌, ℕ, ◌==◌, get_or, Option, Some, None, inl, inr, refl, sym, ap, ◌∙◌, arith}
use Rattle.std.proofs.lemmas.Bool.Decides.{eqb_tells}
use Rattle.std.proofs.lemmas.List.Elements.{Contains-get_or}
use Rattle.route_search.specs.declared.reached.Reach.{Reach}
use Rattle.route_search.specs.Reaches.{bound_of, cost_of, HasEnough}

is_none : (bound : Option ℕ) → ((b : ℕ) → bound ≡ Some b → ⊥) → bound ≡ None
is_none None never = refl
is_none (Some b) never = absurd (never b refl)

-- where it has no cost there is no bound
pub no_bound : (reach : Reach) (to : ℕ) → HasEnough (λ n. n == to) 1 reach → cost_of reach to ≡ None → bound_of reach ≡ None
no_bound reach to enough none = is_none (bound_of reach) (λ b some.
    (let (found, are) = enough b some in
    let has = Contains-get_or found 0 0 (omega (arith, are.many)) in
    let (cost, is, less) = are.cheap (get_or found 0 0) has in
    let same : get_or found 0 0 ≡ to = elim (eqb_tells (get_or found 0 0) to) [
      | inl here ↦ here.1
      | inr other ↦ (let on = are.ends (get_or found 0 0) has in absurd cc)
    ] in
    let there : cost_of reach to ≡ Some cost = ap (cost_of reach) (sym same) ∙ is in
    let never : None ≡ Some cost = sym none ∙ there in
    absurd cc))
