use Rattle.rule_reports.specs.Order.{note_cmp}
use Rattle.rule_reports.proofs.Orders.{notes_total}
use Rattle.rule_reports.proofs.Unique.{one_list}
use Rattle.rule_reports.proofs.laws.one_list_of_notes.Goals as goal

pub returns : goal.returns
returns g c xs ys one other = one_list note_cmp notes_total g.N.Noting.notes xs ys one other
