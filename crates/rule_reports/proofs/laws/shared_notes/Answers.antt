use Rattle.rule_reports.specs.Order.{note_cmp}
use Rattle.rule_reports.proofs.Orders.{notes_total}
use Rattle.rule_reports.proofs.Phases.{Lists-same}
use Rattle.rule_reports.proofs.Unique.{one_list}
use Rattle.rule_reports.proofs.laws.shared_notes.Goals as goal

pub returns-clause-list : goal.returns-clause-list
returns-clause-list g c agree notes all =
    Lists-same note_cmp g.N.Noting.notes g.M.Noting.notes notes (λ x. (agree x).0) (λ x. (agree x).1) all

pub returns-clause-one : goal.returns-clause-one
returns-clause-one g c agree xs ys one other =
    let moved = Lists-same note_cmp g.N.Noting.notes g.M.Noting.notes xs (λ x. (agree x).0) (λ x. (agree x).1) one in
    one_list note_cmp notes_total g.M.Noting.notes xs ys moved other
