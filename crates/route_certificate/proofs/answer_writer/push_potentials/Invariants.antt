use Rattle.std.proofs.Common.{◌≡◌, ◌++◌, take}
use Rattle.std.specs.List.{flat_map}
use Rattle.route_certificate.specs.Answers.{at_line}
use Rattle.route_certificate.proofs.answer_writer.push_potentials.Given as goal

abbrev pub invariant-loop-potential : goal.invariant-loop-potential
invariant-loop-potential l = l.out.items ≡ l.initial.out.items ++ flat_map at_line (take l.potential-index l.at)
