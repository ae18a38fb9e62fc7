use Rattle.std.proofs.Common.{List, [], ◌∷◌, ◌++◌, subst, ap, ◌∙◌}
use Rattle.std.proofs.lemmas.Bool.{both_ways}
use Rattle.std.specs.Prelude.{Contains}
use Rattle.venue_types.specs.declared.finding.Finding.{Finding}
use Rattle.rule_reports.specs.Passes.{Adds}
use Rattle.rule_reports.specs.Reports.{IsReport}
use Rattle.ring_rules.specs.Rules.{BreaksInRing}
use Rattle.venue_build.proofs.Planes.{spread_report, misplaced_report}
use Rattle.venue_build.proofs.plane.plane_findings.Goals as goal

pub returns-then-is_spread : goal.returns-then-is_spread
returns-then-is_spread c =
    let gathered = c.in_ok-push.ensures.items ∙ ap (λ (xs : List Finding). xs ++ c.finding.result ∷ []) c.new-findings.ensures.items ∙ ap (λ (x : Finding). x ∷ []) c.finding.ensures in
    spread_report c.args.features.now c.args.settings.now.contain_tol c.in_order.result
    (c.is_spread.ensures.spread.0 c.if-is_spread.true)
    (subst (λ (xs : List Finding). IsReport (Contains xs) c.in_order.result) gathered c.in_order.ensures)

pub returns : goal.returns
returns c =
    let features = c.args.features.now in
    let rings = c.add_ring_findings.new.findings.items in
    misplaced_report features c.args.settings.now.contain_tol c.add_hold_findings.new.findings.items rings c.in_order-2.result
    (λ spread. both_ways _ c.if-is_spread.false (c.is_spread.ensures.spread.1 spread))
    (subst (λ (xs : List Finding). Adds (BreaksInRing features) xs rings) c.new-findings.ensures.items c.in_ok-add_ring_findings.ensures.adds)
    c.in_ok-add_hold_findings.ensures.adds c.in_order-2.ensures
