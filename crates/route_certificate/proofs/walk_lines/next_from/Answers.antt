use Rattle.std.proofs.Common.{arith}
use Rattle.route_certificate.specs.Forms.{from_body, from_line, FitsNode}
use Rattle.line_forms.proofs.LineLemmas.{no_item_line, other_item_line, item_line}
use Rattle.route_certificate.proofs.LineLemmas.{from_line_is, Lacks-from_body}
use Rattle.route_certificate.proofs.walk_lines.next_from.Goals as goal

pub returns-in_err-body-clause-none : goal.returns-in_err-body-clause-none
returns-in_err-body-clause-none c = rw c.from_residual.ensures (no_item_line from_line from_body (FitsNode c.args.nodes) from_line_is c.args.text.now c.in_err-body.ensures.none)

pub returns-in_err-place-clause-none : goal.returns-in_err-place-clause-none
returns-in_err-place-clause-none c =
    rw c.from_residual-in_err-place.ensures
    (other_item_line from_line from_body (FitsNode c.args.nodes) from_line_is (λ k fits. Lacks-from_body k (omega (arith, fits.small)))
    c.args.text.now c.in_ok-body.body.now c.in_ok-body.rest.now c.in_ok-body.ensures.found c.in_err-place.ensures.none)

pub returns-clause-found : goal.returns-clause-found
returns-clause-found c =
    let found = c.in_ok-place.ensures.found in
    (item_line from_line from_body from_line_is c.args.text.now c.in_ok-body.body.now c.in_ok-body.rest.now c.in_ok-place.place c.in_ok-body.ensures.found found.0, found.1)
