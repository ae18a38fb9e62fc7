-- What the report of a predicate on places is, and one phase after another.
use Rattle.std.specs.Prelude.{◌≡◌, ◌⊎◌, List, Contains, length, take}
use Rattle.std.specs.List.Sorted.{IsStrictlySortedBy}
use Rattle.std.specs.declared.cmp.Ordering.{Ordering}
use Rattle.venue_types.specs.declared.finding.Finding.{Finding}
use Rattle.venue_types.specs.declared.finding.Note.{Note}
use Rattle.venue_types.specs.declared.finding.Report.{Report}
use Rattle.rule_reports.specs.Order.{finding_cmp, note_cmp}

-- the list has exactly what has the property, each once, in the order
pub record Lists {A : Type 0} (cmp : A → A → Ordering) (P : A → Type 0) (items : List A) : Type 0 where
  pub rises : IsStrictlySortedBy cmp items
  pub only : (x : A) → Contains items x → P x
  pub whole : (x : A) → P x → Contains items x

-- the findings are the places where something is broken, each once, in their order
abbrev pub IsReport : (Finding → Type 0) → List Finding → Type 0
IsReport IsBroken findings = Lists finding_cmp IsBroken findings

-- the notes are the places where something is noted, each once, in their order
abbrev pub IsNoteList : (Note → Type 0) → List Note → Type 0
IsNoteList IsNoted notes = Lists note_cmp IsNoted notes

-- one phase after another: a place of the first, or, where the first has no place at all, one of the second
abbrev pub First : {A : Type 0} → (A → Type 0) → (A → Type 0) → A → Type 0
First {A} P Q x = P x ⊎ (((y : A) → ¬ P y) × Q x)

-- the first 500 findings of the list, and how many it has
pub record Shortens (findings : List Finding) (report : Report) : Type 0 where
  pub first : report.first ≡ take 500 findings
  pub total : report.total ≡ length findings

-- the first 500 findings of the report, and how many it has
abbrev pub IsShortReport : (Finding → Type 0) → Report → Type 0
IsShortReport IsBroken short = (findings : List Finding) × IsReport IsBroken findings × Shortens findings short
