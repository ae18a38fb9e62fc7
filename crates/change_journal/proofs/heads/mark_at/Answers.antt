use Rattle.change_journal.proofs.Looking.{then_looks, looks_same}
use Rattle.change_journal.proofs.heads.mark_at.Goals as goal

pub returns-then-end-place-lt19-clause-looks : goal.returns-then-end-place-lt19-clause-looks
returns-then-end-place-lt19-clause-looks g c = looks_same _

pub returns-in_err-short_at-clause-looks : goal.returns-in_err-short_at-clause-looks
returns-in_err-short_at-clause-looks g c = then_looks c.in_ok-wide_at.ensures.looks c.in_err-short_at.ensures.looks

pub returns-clause-looks : goal.returns-clause-looks
returns-clause-looks g c = then_looks c.in_ok-wide_at.ensures.looks c.in_ok-short_at.ensures.looks
