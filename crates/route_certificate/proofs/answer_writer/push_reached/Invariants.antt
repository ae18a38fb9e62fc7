use Rattle.std.proofs.Common.{◌≡◌, ◌++◌, take}
use Rattle.std.specs.List.{flat_map}
use Rattle.route_certificate.specs.Answers.{reach_line}
use Rattle.route_certificate.proofs.answer_writer.push_reached.Given as goal

abbrev pub invariant-loop-node : goal.invariant-loop-node
invariant-loop-node l = l.out.items ≡ l.initial.out.items ++ flat_map reach_line (take l.node-index l.reached)
