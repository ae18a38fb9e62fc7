use Rattle.std.proofs.Common.{length}
use Rattle.route_certificate.specs.Forms.{FitsNode}
use Rattle.route_certificate.specs.Answers.{reach_line}
use Rattle.route_certificate.proofs.RisingFronts.{RisingRead}
use Rattle.route_certificate.proofs.answer_lines.read_reached.Given as goal

abbrev pub invariant-loop-node : goal.invariant-loop-node
invariant-loop-node l = RisingRead reach_line (FitsNode l.nodes) (λ n. n) l.reached.items l.text l.rest l.low

abbrev pub decreases-loop-node : goal.decreases-loop-node
decreases-loop-node l = length l.rest
