use Rattle.std.proofs.Common.{rules}
use Rattle.rule_reports.proofs.Sorting.{findings_listed}
use Rattle.rule_reports.proofs.order.in_order.Goals as goal

pub returns : goal.returns
returns c = search (rules, findings_listed)
