use Rattle.std.specs.Fmt.{decimal}
use Rattle.route_certificate.specs.Answers.{at_line}
use Rattle.route_certificate.proofs.AnswerWritten.{four_pieces}
use Rattle.route_certificate.proofs.answer_writer.push_potential.Goals as goal

pub returns : goal.returns
unfolding at_line
returns c =
    four_pieces c.args.out.now.items c.extend_from_slice.new.self.items c.push_number.new.out.items c.push.new.self.items c.push_number-2.new.out.items c.push-2.new.self.items
    (decimal c.args.potential.node) (decimal c.args.potential.value)
    c.in_ok-extend_from_slice.ensures.items c.in_ok-push_number.ensures.ok c.in_ok-push.ensures.items c.in_ok-push_number-2.ensures.ok c.in_ok-push-2.ensures.items
