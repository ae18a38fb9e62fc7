-- The findings of the two phases on the plane.
use Rattle.std.proofs.Common.{◌≡◌, ℕ, List, [], ◌∷◌, true, refl, subst, arith, inl, inr}
use Rattle.std.specs.Prelude.{Contains}
use Rattle.venue_types.proofs.Items.{Contains-nil, Contains-first}
use Rattle.venue_types.specs.declared.features.Features.{Features}
use Rattle.venue_types.specs.declared.finding.Finding.{Finding}
use Rattle.rule_reports.specs.Passes.{Adds}
use Rattle.rule_reports.specs.Reports.{IsReport}
use Rattle.rule_reports.specs.Order.{finding_cmp}
use Rattle.rule_reports.proofs.Passes.{Contains-found}
use Rattle.rule_reports.proofs.Phases.{Lists-same}
use Rattle.venue_types.specs.declared.folder_file.File.TheVariants as file
use Rattle.imdf_read.specs.Rule.TheVariants as rule
use Rattle.imdf_read.specs.Places.{finding_at}
use Rattle.imdf_read.specs.AllRules.{rule_number}
use Rattle.ring_rules.specs.Rules.{IsSpread, BreaksSpread, BreaksInRing}
use Rattle.contain_rules.specs.Rules.{BreaksHold}
use Rattle.venue_build.specs.Phases.{IsPlaneBroken}

abbrev pub spread_finding : Finding
spread_finding = finding_at rule.G6 file.Manifest 0 0

-- what stands in a list of one is that one
one_there : (x y : Finding) → Contains (x ∷ []) y → x ≡ y
one_there x y has = ((Contains-found true x y).0 has).1

same_finding : (x : Finding) → x.rule ≡ rule_number rule.G6 → x.file ≡ 0 → x.index ≡ 0 → x.member ≡ 0 → spread_finding ≡ x
same_finding x rule in_file at_index at_member = grind (arith, rule, in_file, at_index, at_member)

-- the folder is spread
pub spread_report : (features : Features) (tolerance : ℕ) (findings : List Finding) → IsSpread features
    → IsReport (Contains (spread_finding ∷ [])) findings → IsReport (IsPlaneBroken features tolerance) findings
spread_report features tolerance findings spread all =
    Lists-same finding_cmp (Contains (spread_finding ∷ [])) (IsPlaneBroken features tolerance) findings
    (λ x has. let e = one_there spread_finding x has in
    inl (subst (λ (y : Finding). BreaksSpread features y) e (record { spread = spread; rule = refl; in_file = refl; at_index = refl; at_member = refl })))
    (λ x broken. elim broken [
      | inl b ↦ subst (λ (y : Finding). Contains (spread_finding ∷ []) y) (same_finding x b.rule b.in_file b.at_index b.at_member) (Contains-first spread_finding [])
      | inr later ↦ absurd (later.0 spread_finding (record { spread = spread; rule = refl; in_file = refl; at_index = refl; at_member = refl }))
    ])
    all

-- it isn't
pub misplaced_report : (features : Features) (tolerance : ℕ) (gathered rings findings : List Finding) → ¬ IsSpread features
    → Adds (BreaksInRing features) [] rings → Adds (BreaksHold features tolerance) rings gathered
    → IsReport (Contains gathered) findings → IsReport (IsPlaneBroken features tolerance) findings
misplaced_report features tolerance gathered rings findings not_spread first second all =
    Lists-same finding_cmp (Contains gathered) (IsPlaneBroken features tolerance) findings
    (λ x has. inr (
      (λ y b. not_spread b.spread),
      elim (second.only x has) [
        | inl before ↦ elim (first.only x before) [ inl nil ↦ absurd (Contains-nil x nil) | inr in_ring ↦ inl in_ring ]
        | inr hold ↦ inr hold
      ],
    ))
    (λ x broken. elim broken [
      | inl b ↦ absurd (not_spread b.spread)
      | inr later ↦ elim later.1 [ inl in_ring ↦ second.kept x (first.whole x in_ring) | inr hold ↦ second.whole x hold ]
    ])
    all
