use Rattle.std.specs.List.{flat_map}
use Rattle.route_certificate.specs.Forms.{end_line}
use Rattle.route_certificate.specs.Answers.{none_line, reach_line}
use Rattle.route_certificate.proofs.AnswerWritten.{three_parts}
use Rattle.route_certificate.proofs.answer_writer.push_nothing.Goals as goal

pub returns : goal.returns
returns c =
    three_parts c.args.out.now.items c.extend_from_slice.new.self.items c.push_reached.new.out.items c.extend_from_slice-2.new.self.items
    none_line (flat_map reach_line c.args.reached.now) end_line
    c.in_ok-extend_from_slice.ensures.items c.in_ok-push_reached.ensures c.in_ok-extend_from_slice-2.ensures.items
