-- What the phases after the first come to, one after another.
use Rattle.std.proofs.Common.{◌≡◌, ◌≢◌, List, [], refl, subst, inl}
use Rattle.std.specs.List.Sorted.{IsStrictlySortedBy}
use Rattle.venue_types.proofs.Items.{Contains-nil}
use Rattle.venue_types.specs.declared.features.Features.{Features}
use Rattle.venue_types.specs.declared.settings.Settings.{Settings}
use Rattle.venue_types.specs.declared.finding.Finding.{Finding}
use Rattle.rule_reports.specs.Order.{finding_cmp}
use Rattle.rule_reports.specs.Reports.{IsReport}
use Rattle.rule_reports.proofs.Phases.{First-stops, First-goes_on}
use Rattle.imdf_refs.specs.Rules.{IsMisnamed}
use Rattle.ring_rules.specs.Rules.{IsSpread}
use Rattle.link_graph.specs.Limits.{BreaksLimit}
use Rattle.venue_build.specs.Phases.{IsPlaneBroken, IsGroundBroken}
use Rattle.venue_build.specs.Report.{IsLaterBroken}
use Rattle.venue_build.proofs.PhaseLemmas.{nothing}
use Rattle.venue_build.proofs.Planes.{spread_finding}

-- the report of a phase that has nothing, as an empty one
pub empty_report : (P : Finding → Type 0) (findings : List Finding) → findings ≡ [] → IsReport P findings → IsReport P []
empty_report P findings none report = subst (λ (xs : List Finding). IsReport P xs) none report

-- a phase that finds nothing has an empty report
pub none_report : (P : Finding → Type 0) → ((x : Finding) → ¬ P x) → IsReport P []
unfolding IsStrictlySortedBy
none_report P none = record {
  rises = tt;
  only = λ y h. absurd (Contains-nil y h);
  whole = λ y p. absurd (none y p);
}

module _ (features : Features) (settings : Settings) where
  -- the second phase finds something
  pub names_report : (findings : List Finding) → findings ≢ [] → IsReport (IsMisnamed features) findings → IsReport (IsLaterBroken features settings) findings
  names_report findings some report = First-stops finding_cmp (IsMisnamed features) (IsGroundBroken features settings) findings some report

  -- it finds nothing, and the phases on the plane something
  pub plane_report : (findings : List Finding) → IsReport (IsMisnamed features) [] → findings ≢ []
      → IsReport (IsPlaneBroken features settings.contain_tol) findings → IsReport (IsLaterBroken features settings) findings
  plane_report findings names some report =
      First-goes_on finding_cmp (IsMisnamed features) (IsGroundBroken features settings) findings names
      (First-stops finding_cmp (IsPlaneBroken features settings.contain_tol) (BreaksLimit features settings) findings some report)

  -- they find nothing either, and the last phase has this
  pub limit_report : (findings : List Finding) → IsReport (IsMisnamed features) [] → IsReport (IsPlaneBroken features settings.contain_tol) []
      → IsReport (BreaksLimit features settings) findings → IsReport (IsLaterBroken features settings) findings
  limit_report findings names plane report =
      First-goes_on finding_cmp (IsMisnamed features) (IsGroundBroken features settings) findings names
      (First-goes_on finding_cmp (IsPlaneBroken features settings.contain_tol) (BreaksLimit features settings) findings plane report)

  -- none finds anything
  pub silent : IsReport (IsMisnamed features) [] → IsReport (IsPlaneBroken features settings.contain_tol) []
      → IsReport (BreaksLimit features settings) [] → (x : Finding) → ¬ IsLaterBroken features settings x
  silent names plane limits = nothing (IsLaterBroken features settings) [] refl (limit_report [] names plane limits)

  -- where the phases on the plane find nothing, the folder isn't spread
  pub not_spread : IsReport (IsPlaneBroken features settings.contain_tol) [] → ¬ IsSpread features
  not_spread plane spread =
      nothing (IsPlaneBroken features settings.contain_tol) [] refl plane spread_finding
      (inl (record { spread = spread; rule = refl; in_file = refl; at_index = refl; at_member = refl }))
