use Rattle.change_journal.proofs.Looking.{then_looks}
use Rattle.change_journal.proofs.pieces.wide_at.Goals as goal

pub returns-in_err-low-clause-looks : goal.returns-in_err-low-clause-looks
returns-in_err-low-clause-looks g c = then_looks c.in_ok-high.ensures.looks c.in_err-low.ensures.looks

pub returns-clause-looks : goal.returns-clause-looks
returns-clause-looks g c = then_looks c.in_ok-high.ensures.looks c.in_ok-low.ensures.looks
