-- What stands in the words that describe a gathering.
use Rattle.std.proofs.Common.{◌≡◌, [], ◌∷◌, Bool, true, false, refl, subst}
use Rattle.std.specs.Prelude.{Contains, ◌↔◌}
use Rattle.venue_types.proofs.Items.{Contains-nil, Contains-only, Contains-first}
use Rattle.rule_reports.specs.Passes.{found}

-- a test finds its place, where it holds
pub Contains-found : {A : Type 0} (holds : Bool) (x y : A) → Contains (found holds x) y ↔ ((holds ≡ true) × (x ≡ y))
Contains-found {A} true x y = ((λ h. (refl, Contains-only x y h)), (λ h. subst (λ (z : A). Contains (x ∷ []) z) h.1 (Contains-first x [])))
Contains-found false x y = ((λ h. absurd (Contains-nil y h)), (λ h. absurd (let e : false ≡ true = h.0 in cc)))
