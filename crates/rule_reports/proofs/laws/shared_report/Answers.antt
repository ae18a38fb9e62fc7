use Rattle.rule_reports.specs.Order.{finding_cmp}
use Rattle.rule_reports.proofs.Phases.{Lists-same}
use Rattle.rule_reports.proofs.laws.shared_report.Goals as goal

pub returns-clause-report : goal.returns-clause-report
returns-clause-report g c agree findings all =
    Lists-same finding_cmp g.P.Phase.breaks g.Q.Phase.breaks findings (λ x. (agree x).0) (λ x. (agree x).1) all

pub returns-clause-short : goal.returns-clause-short
returns-clause-short g c agree short first =
    (first.0, Lists-same finding_cmp g.P.Phase.breaks g.Q.Phase.breaks first.0 (λ x. (agree x).0) (λ x. (agree x).1) first.1, first.2)
