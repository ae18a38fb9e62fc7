-- Where a list that has all that is broken is empty, nothing is broken.
use Rattle.std.proofs.Common.{◌≡◌, List, [], subst}
use Rattle.std.specs.Prelude.{Contains}
use Rattle.venue_types.proofs.Items.{Contains-nil}
use Rattle.venue_types.specs.declared.finding.Finding.{Finding}

pub nothing : (P : Finding → Type 0) (findings : List Finding) → findings ≡ [] → ((x : Finding) → P x → Contains findings x) → (x : Finding) → ¬ P x
nothing P findings empty whole x breaks = Contains-nil x (subst (λ (xs : List Finding). Contains xs x) empty (whole x breaks))
