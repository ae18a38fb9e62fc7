use Rattle.change_journal.proofs.Looking.{then_looks, looks_same}
use Rattle.std.proofs.Common.{drop, ◌∙◌, arith}
use Rattle.std.proofs.lemmas.List.{length-drop}
use Rattle.change_journal.proofs.Parsing.{no_short_body, head_is}
use Rattle.change_journal.proofs.heads.head_at.Goals as goal

pub returns-then-end-place-lt2-clause-looks : goal.returns-then-end-place-lt2-clause-looks
returns-then-end-place-lt2-clause-looks g c = looks_same _

pub returns-in_err-worker-clause-looks : goal.returns-in_err-worker-clause-looks
returns-in_err-worker-clause-looks g c = then_looks c.in_ok-kind.ensures.looks c.in_err-worker.ensures.looks

pub returns-clause-looks : goal.returns-clause-looks
returns-clause-looks g c = then_looks c.in_ok-kind.ensures.looks c.in_ok-worker.ensures.looks

pub returns-then-end-place-lt2-clause-head : goal.returns-then-end-place-lt2-clause-head
returns-then-end-place-lt2-clause-head g c = λ bytes is.
    let long = c.end.ensures.told bytes is in
    no_short_body (drop c.args.place bytes) (omega (arith, long, length-drop c.args.place bytes))

pub returns-clause-head : goal.returns-clause-head
returns-clause-head g c = λ bytes is.
    head_is c.args.place c.in_ok-kind.kind c.in_ok-worker.worker bytes c.head_of.result (c.in_ok-kind.ensures.byte bytes is)
    (c.in_ok-worker.ensures.byte bytes (c.in_ok-kind.ensures.told ∙ is)) c.head_of.ensures
