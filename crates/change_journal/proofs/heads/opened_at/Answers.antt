use Rattle.change_journal.proofs.Looking.{then_looks}
use Rattle.std.proofs.Common.{◌≡◌, ◌+◌, Option, Some, sym, ◌∙◌, subst}
use Rattle.change_journal.specs.Forms.{IsHeadAt}
use Rattle.change_journal.specs.declared.heads.Head.{Head}
use Rattle.change_journal.specs.declared.heads.Head.TheVariants as head
use Rattle.change_journal.proofs.Parsing.{opened_head, broken_body}
use Rattle.change_journal.proofs.heads.opened_at.Goals as goal

pub marked_at-requires-clause-head : goal.marked_at-requires-clause-head
marked_at-requires-clause-head g c = λ bytes is.
    let was = sym c.in_ok-worker.ensures.told ∙ is in
    let it : c.in_ok-worker.field-0 ≡ Some (head.Closed c.in-Some-Closed.worker) = cc in
    let at = subst (λ (o : Option Head). IsHeadAt (c.args.gate + 1) o bytes) it (c.in_ok-worker.ensures.head bytes was) in
    opened_head c.args.gate 2 c.in-Some-Closed.worker bytes (c.requires.opened bytes was) at

pub marked_at-requires-in-Some-Reopened-clause-head : goal.marked_at-requires-in-Some-Reopened-clause-head
marked_at-requires-in-Some-Reopened-clause-head g c = λ bytes is.
    let was = sym c.in_ok-worker.ensures.told ∙ is in
    let it : c.in_ok-worker.field-0 ≡ Some (head.Reopened c.in-Some-Reopened.worker) = cc in
    let at = subst (λ (o : Option Head). IsHeadAt (c.args.gate + 1) o bytes) it (c.in_ok-worker.ensures.head bytes was) in
    opened_head c.args.gate 3 c.in-Some-Reopened.worker bytes (c.requires.opened bytes was) at

pub returns-in_err-marked_at-in-Some-Closed-clause-looks : goal.returns-in_err-marked_at-in-Some-Closed-clause-looks
returns-in_err-marked_at-in-Some-Closed-clause-looks g c = then_looks c.in_ok-worker.ensures.looks c.in_err-marked_at-in-Some-Closed.ensures.looks

pub returns-in_err-marked_at-in-Some-Reopened-clause-looks : goal.returns-in_err-marked_at-in-Some-Reopened-clause-looks
returns-in_err-marked_at-in-Some-Reopened-clause-looks g c = then_looks c.in_ok-worker.ensures.looks c.in_err-marked_at-in-Some-Reopened.ensures.looks

pub returns-in_ok-marked_at-in-Some-Closed-clause-looks : goal.returns-in_ok-marked_at-in-Some-Closed-clause-looks
returns-in_ok-marked_at-in-Some-Closed-clause-looks g c = then_looks c.in_ok-worker.ensures.looks c.in_ok-marked_at-in-Some-Closed.ensures.looks

pub returns-in_ok-marked_at-in-Some-Reopened-clause-looks : goal.returns-in_ok-marked_at-in-Some-Reopened-clause-looks
returns-in_ok-marked_at-in-Some-Reopened-clause-looks g c = then_looks c.in_ok-worker.ensures.looks c.in_ok-marked_at-in-Some-Reopened.ensures.looks

pub returns-in-Some-Published-clause-lead : goal.returns-in-Some-Published-clause-lead
returns-in-Some-Published-clause-lead g c = λ bytes is.
    let was = is in
    let it : c.in_ok-worker.field-0 ≡ Some (head.Published c.in-Some-Published.worker) = cc in
    let at = subst (λ (o : Option Head). IsHeadAt (c.args.gate + 1) o bytes) it (c.in_ok-worker.ensures.head bytes was) in
    opened_head c.args.gate 1 c.in-Some-Published.worker bytes (c.requires.opened bytes was) at

pub returns-in-None-clause-lead : goal.returns-in-None-clause-lead
returns-in-None-clause-lead g c = λ bytes is.
    let none = subst (λ (o : Option Head). IsHeadAt (c.args.gate + 1) o bytes) c.in-None.is (c.in_ok-worker.ensures.head bytes is) in
    broken_body c.args.gate bytes (c.requires.opened bytes is) none
