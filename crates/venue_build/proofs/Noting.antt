-- The notes of a venue.
use Rattle.std.proofs.Common.{◌⊎◌, List, inl, inr}
use Rattle.std.specs.Prelude.{Contains}
use Rattle.venue_types.specs.declared.finding.Note.{Note}
use Rattle.rule_reports.specs.Order.{note_cmp}
use Rattle.rule_reports.specs.Passes.{Adds}
use Rattle.rule_reports.specs.Reports.{IsNoteList}
use Rattle.rule_reports.proofs.Phases.{Lists-same}

-- what was gathered: what there was before, and what was added
pub added_notes : (P : Note → Type 0) (before gathered notes : List Note) → Adds P before gathered → IsNoteList (Contains gathered) notes
    → IsNoteList (λ x. Contains before x ⊎ P x) notes
added_notes P before gathered notes adds all =
    Lists-same note_cmp (Contains gathered) (λ x. Contains before x ⊎ P x) notes adds.only
    (λ x noted. elim noted [ inl old ↦ adds.kept x old | inr new ↦ adds.whole x new ]) all

-- notes of one property are those of another that says the same
pub same_notes : (P Q : Note → Type 0) (notes : List Note) → ((x : Note) → P x → Q x) → ((x : Note) → Q x → P x) → IsNoteList P notes → IsNoteList Q notes
same_notes P Q notes into back all = Lists-same note_cmp P Q notes into back all
