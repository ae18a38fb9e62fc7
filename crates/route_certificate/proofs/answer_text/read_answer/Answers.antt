use Rattle.std.proofs.Common.{◌≡◌, ℕ, ◌++◌, List, sym, ap, subst, ◌∙◌, arith}
use Rattle.std.specs.Prelude.{Result, Ok, Err, IsErrOf, IsErrAnd}
use Rattle.line_forms.specs.Fronts.{HasNone}
use Rattle.line_forms.specs.Faults.{IsFaultLine}
use Rattle.route_certificate.specs.declared.answer.AnswerIn.{AnswerIn}
use Rattle.route_certificate.specs.declared.answer.Claim.{Claim}
use Rattle.route_certificate.specs.declared.table.FormFault.{FormFault}
use Rattle.route_certificate.specs.declared.table.FormFault.TheVariants.{Line}
use Rattle.route_certificate.specs.Forms.{from_line, FitsNode}
use Rattle.route_certificate.specs.Answers.{answer_head, to_line, IsAnswerTextOver}
use Rattle.route_certificate.specs.AnswerFronts.{IsClaimText}
use Rattle.route_certificate.proofs.FaultNames.{named}
use Rattle.route_certificate.proofs.AnswerFaults.{no_head, no_start, no_finish, claim_fault}
use Rattle.route_certificate.proofs.answer_text.read_answer.Goals as goal

-- a fault of the claim is passed on as it is
passed_on : (r : Result AnswerIn FormFault) (fault : FormFault) (n : ℕ) → IsErrAnd r (λ e. e ≡ fault) → IsErrOf r (Line n) → IsErrOf {T = Claim} (Err fault) (Line n)
passed_on (Ok answer) fault n is at = absurd is
passed_on (Err e) fault n is at =
    let same : e ≡ Line n = cc in
    ap (λ (x : FormFault). Err x) (sym is ∙ same)

pub returns-in_default-clause-fault : goal.returns-in_default-clause-fault
returns-in_default-clause-fault c = λ n is.
    subst (IsFaultLine (IsAnswerTextOver c.args.table.now) c.args.text.now) (named {T = AnswerIn} 1 n is) (no_head c.args.text.now c.args.table.now c.in_default.ensures.none)

pub returns-in_default-next_from-clause-fault : goal.returns-in_default-next_from-clause-fault
returns-in_default-next_from-clause-fault c = λ n is.
    let nodes = c.args.table.now.nodes in
    let none = subst (λ k. HasNone from_line (FitsNode k) c.in-Some.rest.now) c.len-nodes.ensures c.in_default-next_from.ensures.none in
    subst (IsFaultLine (IsAnswerTextOver c.args.table.now) c.args.text.now) (named {T = AnswerIn} 2 n is)
    (no_start c.args.text.now c.in-Some.rest.now c.args.table.now (omega (arith, c.len-nodes.ensures, c.if-nodes-eq0.false)) c.in-Some.ensures.found none)

pub returns-in_default-next_to-clause-fault : goal.returns-in_default-next_to-clause-fault
returns-in_default-next_to-clause-fault c = λ n is.
    let first = c.in-Some-next_from.ensures.found in
    let from = subst (λ k. FitsNode k c.in-Some-next_from.from) c.len-nodes.ensures first.1 in
    let none = subst (λ k. HasNone to_line (FitsNode k) c.in-Some-next_from.rest.now) c.len-nodes.ensures c.in_default-next_to.ensures.none in
    subst (IsFaultLine (IsAnswerTextOver c.args.table.now) c.args.text.now) (named {T = AnswerIn} 3 n is)
    (no_finish c.args.text.now c.in-Some-next_from.rest.now c.args.table.now c.in-Some-next_from.from from (c.in-Some.ensures.found ∙ ap (λ (t : List ℕ). answer_head ++ t) first.0) none)

pub returns-in_err-claim-clause-fault : goal.returns-in_err-claim-clause-fault
returns-in_err-claim-clause-fault c =
    let first = c.in-Some-next_from.ensures.found in
    let second = c.in-Some-next_to.ensures.found in
    let from = subst (λ k. FitsNode k c.in-Some-next_from.from) c.len-nodes.ensures first.1 in
    let to = subst (λ k. FitsNode k c.in-Some-next_to.to) c.len-nodes.ensures second.1 in
    let rest = c.in-Some-next_to.rest.now in
    let parts = c.in-Some.ensures.found ∙ ap (λ (t : List ℕ). answer_head ++ t) (first.0 ∙ ap (λ (t : List ℕ). from_line c.in-Some-next_from.from ++ t) second.0) in
    λ n is.
    let claim = c.in_err-claim.ensures.fault n (passed_on c.from_residual.result c.in_err-claim.field-0.0 n c.from_residual.ensures.1 is) in
    let fault = subst (λ k. IsFaultLine (IsClaimText k) rest claim.line) c.len-nodes.ensures claim.fault in
    subst (IsFaultLine (IsAnswerTextOver c.args.table.now) c.args.text.now) (sym claim.behind)
    (claim_fault c.args.text.now rest c.args.table.now c.in-Some-next_from.from c.in-Some-next_to.to claim.line from to parts fault)
