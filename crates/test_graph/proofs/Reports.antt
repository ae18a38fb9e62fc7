-- What an empty report says.
use Rattle.std.proofs.Common.{◌≡◌, List, [], IsTrue, Bool, ◌↔◌, subst}
use Rattle.std.specs.Prelude.{Contains}
use Rattle.venue_types.proofs.Items.{Contains-nil}

-- nothing is in an empty list, and so nothing is told in it
pub nothing : {A : Type 0} (P : A → Type 0) (xs : List A) → xs ≡ [] → ((x : A) → P x → Contains xs x) → (x : A) → ¬ P x
nothing {A} P xs empty whole x is = Contains-nil x (subst (λ (ys : List A). Contains ys x) empty (whole x is))

pub empty : {A : Type 0} (b : Bool) (xs : List A) → (IsTrue b ↔ (xs ≡ [])) → IsTrue b → xs ≡ []
empty b xs same is = same.0 is
