use Rattle.std.proofs.Common.{arith}
use Rattle.route_certificate.specs.Answers.{to_line}
use Rattle.route_certificate.proofs.answer_lines.next_to.Goals as goal

pub returns-in_err-node-clause-none : goal.returns-in_err-node-clause-none
unfolding to_line
returns-in_err-node-clause-none c =
    rw c.from_residual.ensures (λ n more fits e. c.in_err-node.ensures.none n more (record { least = omega arith; most = (c.node_end-end.ensures n).1 fits }) e)

pub overflow_cast-result : goal.overflow_cast-result
overflow_cast-result c = omega (arith, ((c.node_end-end.ensures c.in_ok-node.node).0 c.in_ok-node.ensures.found.1.most).small)

pub returns-clause-found : goal.returns-clause-found
unfolding to_line
returns-clause-found c =
    let found = c.in_ok-node.ensures.found in
    let node = (c.node_end-end.ensures c.in_ok-node.node).0 found.1.most in
    (found.0, node)
