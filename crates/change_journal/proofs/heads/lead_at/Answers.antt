use Rattle.change_journal.proofs.Looking.{then_looks}
use Rattle.std.proofs.Common.{◌+◌, drop}
use Rattle.change_journal.proofs.heads.lead_at.Goals as goal

pub returns-then-branch-eq1-clause-looks : goal.returns-then-branch-eq1-clause-looks
returns-then-branch-eq1-clause-looks g c = then_looks c.in_ok-byte_at.ensures.looks c.opened_at.ensures.looks

pub returns-else-branch-eq1-clause-lead : goal.returns-else-branch-eq1-clause-lead
returns-else-branch-eq1-clause-lead g c = λ bytes is.
    record { gate = c.in_ok-byte_at.field-0; rest = drop (c.args.gate + 1) bytes; text = c.in_ok-byte_at.ensures.byte bytes is; shut = c.if-branch-eq1.false }
