use Rattle.std.proofs.Common.{List, Some, sym, subst}
use Rattle.venue_types.specs.declared.finding.Finding.{Finding}
use Rattle.rule_reports.specs.Reports.{IsReport}
use Rattle.venue_nodes.specs.Crowds.{limit_finding}
use Rattle.venue_nodes.specs.Limits.{BreaksLimit}
use Rattle.venue_nodes.proofs.Limiting.{report, told_one}
use Rattle.venue_nodes.proofs.limits.limit_findings.Goals as goal

pub returns-clause-all : goal.returns-clause-all
returns-clause-all c = λ features settings crowds.
    let told = told_one c.new-findings.result c.push.new.self c.finding.result (limit_finding c.args.crowding) c.new-findings.ensures c.finding.ensures c.in_ok-push.ensures.ok in
    subst (λ (xs : List Finding). IsReport (BreaksLimit features settings) xs) (sym told) (report features settings (Some c.args.crowding) crowds)
