use Rattle.std.proofs.Common.{arith}
use Rattle.route_certificate.specs.Answers.{route_line}
use Rattle.route_certificate.proofs.answer_lines.next_route.Goals as goal

pub returns-in_err-cost-clause-none : goal.returns-in_err-cost-clause-none
unfolding route_line
returns-in_err-cost-clause-none c = rw c.from_residual.ensures (λ n more fits e. c.in_err-cost.ensures.none n more (record { least = omega arith; most = omega (arith, fits) }) e)

pub returns-clause-found : goal.returns-clause-found
unfolding route_line
returns-clause-found c = (c.in_ok-cost.ensures.found.0, omega (arith, c.in_ok-cost.ensures.found.1.most))
