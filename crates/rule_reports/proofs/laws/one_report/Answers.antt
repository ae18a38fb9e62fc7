use Rattle.rule_reports.specs.Order.{finding_cmp}
use Rattle.rule_reports.proofs.Orders.{findings_total}
use Rattle.rule_reports.proofs.Unique.{one_list}
use Rattle.rule_reports.proofs.laws.one_report.Goals as goal

pub returns : goal.returns
returns g c xs ys one other = one_list finding_cmp findings_total g.P.Phase.breaks xs ys one other
