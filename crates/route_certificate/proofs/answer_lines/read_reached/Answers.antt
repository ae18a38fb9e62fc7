use Rattle.route_certificate.specs.Forms.{FitsNode}
use Rattle.route_certificate.specs.Answers.{reach_line}
use Rattle.route_certificate.proofs.RisingFronts.{rising_more}
use Rattle.route_certificate.proofs.answer_lines.read_reached.Goals as goal

pub loop-node-preserved : goal.loop-node-preserved
loop-node-preserved c =
    let found = c.in-Some.ensures.found in
    rising_more reach_line (FitsNode c.args.nodes) (λ n. n) c.loop-node.reached.items c.push.new.self.items c.args.text.now c.loop-node.rest.now c.in-Some.more.now c.loop-node.low c.in-Some.node
    c.loop-node.invariant found.0 found.1 c.in_ok-push.ensures.items
