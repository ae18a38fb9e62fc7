use Rattle.std.proofs.Common.{arith}
use Rattle.route_certificate.specs.Forms.{step_body, step_line, FitsStep}
use Rattle.line_forms.proofs.LineLemmas.{no_item_line, other_item_line, item_line}
use Rattle.route_certificate.proofs.LineLemmas.{step_line_is, Lacks-step_body}
use Rattle.route_certificate.proofs.walk_lines.next_step.Goals as goal

pub returns-in_err-body-clause-none : goal.returns-in_err-body-clause-none
returns-in_err-body-clause-none c = rw c.from_residual.ensures (no_item_line step_line step_body FitsStep step_line_is c.args.text.now c.in_err-body.ensures.none)

pub returns-in_err-step-clause-none : goal.returns-in_err-step-clause-none
returns-in_err-step-clause-none c =
    rw c.from_residual-in_err-step.ensures
    (other_item_line step_line step_body FitsStep step_line_is (λ k fits. Lacks-step_body k (omega (arith, fits)))
    c.args.text.now c.in_ok-body.body.now c.in_ok-body.rest.now c.in_ok-body.ensures.found c.in_err-step.ensures.none)

pub returns-clause-found : goal.returns-clause-found
returns-clause-found c =
    let found = c.in_ok-step.ensures.found in
    (item_line step_line step_body step_line_is c.args.text.now c.in_ok-body.body.now c.in_ok-body.rest.now c.in_ok-step.step c.in_ok-body.ensures.found found.0, found.1)
