-- What one phase after another makes of a folder.
use Rattle.std.proofs.lemmas.Bool.{both_ways}
use Rattle.std.proofs.Common.{◌≡◌, ◌≢◌, ℕ, ◌<◌, List, [], ◌∷◌, Bool, false, IsTrue, ◌↔◌, length, refl, sym, subst, inl, inr, arith}
use Rattle.std.specs.Prelude.{Contains}
use Rattle.venue_types.proofs.Items.{Contains-nil, Contains-first}
use Rattle.venue_types.specs.declared.files.Files.{Files}
use Rattle.venue_types.specs.declared.features.Features.{Features}
use Rattle.venue_types.specs.declared.settings.Settings.{Settings}
use Rattle.venue_types.specs.declared.finding.Finding.{Finding}
use Rattle.venue_types.specs.declared.finding.Report.{Report}
use Rattle.rule_reports.specs.Order.{finding_cmp}
use Rattle.rule_reports.specs.Reports.{IsReport, First, Shortens}
use Rattle.rule_reports.proofs.Phases.{First-stops, First-goes_on}
use Rattle.imdf_read.specs.Folder.{AreFeatures}
use Rattle.imdf_read.specs.Broken.{IsBroken}
use Rattle.venue_build.specs.Report.{IsLaterBroken}
use Rattle.venue_build.specs.Built.{IsRejected}

-- an empty report: nothing is broken
pub nothing : (P : Finding → Type 0) (findings : List Finding) → findings ≡ [] → IsReport P findings → (x : Finding) → ¬ P x
nothing P findings empty report x breaks = Contains-nil x (subst (λ (xs : List Finding). Contains xs x) empty (report.whole x breaks))

-- its length is above 0 where it isn't empty
some_length : (findings : List Finding) → findings ≢ [] → 0 < length findings
some_length [] some = absurd (some refl)
some_length (x ∷ xs) some = omega arith

some_total : (findings : List Finding) (report : Report) → findings ≢ [] → Shortens findings report → 0 < report.total
some_total findings report some short = subst (λ (n : ℕ). 0 < n) (sym short.total) (some_length findings some)

-- where there is a finding, something is broken
broken : (P : Finding → Type 0) (findings : List Finding) → findings ≢ [] → IsReport P findings → ((x : Finding) → ¬ P x) → ⊥
broken P [] some report none = some refl
broken P (x ∷ xs) some report none = none x (report.only x (Contains-first x xs))

-- the first phase finds something
pub rejected_first : (files : Files) (settings : Settings) (features : Features) (findings : List Finding) (report : Report)
    → findings ≢ [] → IsReport (IsBroken files) findings → Shortens findings report → IsRejected files settings report
rejected_first files settings features findings report some all short = record {
  features = features;
  rows = λ none. absurd (broken (IsBroken files) findings some all none);
  short = (findings, First-stops finding_cmp (IsBroken files) (IsLaterBroken features settings) findings some all, short);
  some = some_total findings report some short;
}

-- it finds nothing, and a later phase finds something
pub rejected_later : (files : Files) (settings : Settings) (features : Features) (before findings : List Finding) (report : Report)
    → before ≡ [] → IsReport (IsBroken files) before → AreFeatures files features
    → findings ≢ [] → IsReport (IsLaterBroken features settings) findings → Shortens findings report → IsRejected files settings report
rejected_later files settings features before findings report empty first rows some all short = record {
  features = features;
  rows = λ none. rows;
  short = (
    findings,
    First-goes_on finding_cmp (IsBroken files) (IsLaterBroken features settings) findings
        (subst (λ (xs : List Finding). IsReport (IsBroken files) xs) empty first) all,
    short,
  );
  some = some_total findings report some short;
}

-- a test of emptiness, both ways
pub not_empty : {A : Type 0} (b : Bool) (xs : List A) → (IsTrue b ↔ (xs ≡ [])) → b ≡ false → xs ≢ []
not_empty b xs same is e = both_ways b is (same.1 e)

pub empty : {A : Type 0} (b : Bool) (xs : List A) → (IsTrue b ↔ (xs ≡ [])) → IsTrue b → xs ≡ []
empty b xs same is = same.0 is

-- where two phases find nothing, neither does
pub first_silent : {A : Type 0} (P Q : A → Type 0) → ((x : A) → ¬ First P Q x) → (x : A) → ¬ P x
first_silent P Q none x here = none x (inl here)

pub second_silent : {A : Type 0} (P Q : A → Type 0) → ((x : A) → ¬ First P Q x) → (x : A) → ¬ Q x
second_silent P Q none x later = none x (inr (first_silent P Q none, later))
