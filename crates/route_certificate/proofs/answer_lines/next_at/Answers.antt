use Rattle.route_certificate.specs.Answers.{at_body, at_line, FitsPotential}
use Rattle.route_certificate.specs.AnswerFronts.{FitsBehind}
use Rattle.line_forms.proofs.LineLemmas.{no_item_line, other_item_line, item_line}
use Rattle.route_certificate.proofs.AnswerLines.{at_line_is, Lacks-at_body, small_potential}
use Rattle.route_certificate.proofs.answer_lines.next_at.Goals as goal

pub returns-in_err-body-clause-none : goal.returns-in_err-body-clause-none
returns-in_err-body-clause-none c = rw c.from_residual.ensures (no_item_line at_line at_body (FitsBehind (FitsPotential c.args.nodes) (λ q. q.node) c.args.low) at_line_is c.args.text.now c.in_err-body.ensures.none)

pub returns-in_err-potential-clause-none : goal.returns-in_err-potential-clause-none
returns-in_err-potential-clause-none c =
    rw c.from_residual-in_err-potential.ensures
    (other_item_line at_line at_body (FitsBehind (FitsPotential c.args.nodes) (λ q. q.node) c.args.low) at_line_is (λ p fits. Lacks-at_body p (small_potential c.args.nodes p fits.fits))
    c.args.text.now c.in_ok-body.body.now c.in_ok-body.rest.now c.in_ok-body.ensures.found c.in_err-potential.ensures.none)

pub returns-clause-found : goal.returns-clause-found
returns-clause-found c =
    let found = c.in_ok-potential.ensures.found in
    (item_line at_line at_body at_line_is c.args.text.now c.in_ok-body.body.now c.in_ok-body.rest.now c.in_ok-potential.potential c.in_ok-body.ensures.found found.0, found.1)
