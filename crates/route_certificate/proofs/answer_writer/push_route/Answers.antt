use Rattle.std.specs.List.{flat_map}
use Rattle.route_certificate.specs.Forms.{step_line, end_line}
use Rattle.route_certificate.specs.Answers.{route_line, at_line}
use Rattle.route_certificate.proofs.AnswerWritten.{four_parts}
use Rattle.route_certificate.proofs.answer_writer.push_route.Goals as goal

pub returns : goal.returns
unfolding route_line
returns c =
    four_parts c.args.out.now.items c.push_numbered.new.out.items c.push_steps.new.out.items c.push_potentials.new.out.items c.extend_from_slice.new.self.items
    (route_line c.args.cost) (flat_map step_line c.args.steps.now) (flat_map at_line c.args.at.now) end_line
    c.in_ok-push_numbered.ensures c.in_ok-push_steps.ensures c.in_ok-push_potentials.ensures c.in_ok-extend_from_slice.ensures.items
