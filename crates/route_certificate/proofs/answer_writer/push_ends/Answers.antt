use Rattle.route_certificate.specs.Forms.{from_line}
use Rattle.route_certificate.specs.Answers.{answer_head, to_line}
use Rattle.route_certificate.proofs.AnswerWritten.{three_parts}
use Rattle.route_certificate.proofs.answer_writer.push_ends.Goals as goal

pub returns : goal.returns
unfolding from_line to_line
returns c =
    three_parts c.args.out.now.items c.extend_from_slice.new.self.items c.push_numbered.new.out.items c.push_numbered-2.new.out.items answer_head (from_line c.args.from) (to_line c.args.to)
    c.in_ok-extend_from_slice.ensures.items c.in_ok-push_numbered.ensures c.in_ok-push_numbered-2.ensures
