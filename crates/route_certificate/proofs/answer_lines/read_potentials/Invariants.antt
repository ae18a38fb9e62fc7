use Rattle.std.proofs.Common.{length}
use Rattle.route_certificate.specs.Answers.{at_line, FitsPotential}
use Rattle.route_certificate.proofs.RisingFronts.{RisingRead}
use Rattle.route_certificate.proofs.answer_lines.read_potentials.Given as goal

abbrev pub invariant-loop-potential : goal.invariant-loop-potential
invariant-loop-potential l = RisingRead at_line (FitsPotential l.nodes) (λ q. q.node) l.potentials.items l.text l.rest l.low

abbrev pub decreases-loop-potential : goal.decreases-loop-potential
decreases-loop-potential l = length l.rest
