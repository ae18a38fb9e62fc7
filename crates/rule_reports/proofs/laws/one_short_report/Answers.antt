use Rattle.rule_reports.specs.Order.{finding_cmp}
use Rattle.rule_reports.proofs.Orders.{findings_total}
use Rattle.rule_reports.proofs.Unique.{one_list}
use Rattle.rule_reports.proofs.Phases.{same_short}
use Rattle.rule_reports.proofs.laws.one_short_report.Goals as goal

pub returns : goal.returns
returns g c short other one two =
    same_short one.0 two.0 short other (one_list finding_cmp findings_total g.P.Phase.breaks one.0 two.0 one.1 two.1) one.2 two.2
