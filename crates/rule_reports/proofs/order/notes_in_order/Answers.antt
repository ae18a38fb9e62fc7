use Rattle.std.proofs.Common.{rules}
use Rattle.rule_reports.proofs.Sorting.{notes_listed}
use Rattle.rule_reports.proofs.order.notes_in_order.Goals as goal

pub returns : goal.returns
returns c = search (rules, notes_listed)
