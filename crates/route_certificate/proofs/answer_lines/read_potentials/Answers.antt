use Rattle.route_certificate.specs.Answers.{at_line, FitsPotential}
use Rattle.route_certificate.proofs.RisingFronts.{rising_more}
use Rattle.route_certificate.proofs.answer_lines.read_potentials.Goals as goal

pub loop-potential-preserved : goal.loop-potential-preserved
loop-potential-preserved c =
    let found = c.in-Some.ensures.found in
    rising_more at_line (FitsPotential c.args.nodes) (λ q. q.node) c.loop-potential.potentials.items c.push.new.self.items c.args.text.now c.loop-potential.rest.now c.in-Some.more.now c.loop-potential.low c.in-Some.potential
    c.loop-potential.invariant found.0 found.1 c.in_ok-push.ensures.items
