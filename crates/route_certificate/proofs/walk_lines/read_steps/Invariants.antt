use Rattle.std.proofs.Common.{◌≡◌, ◌++◌, length}
use Rattle.std.specs.List.{flat_map, AllByRecursion}
use Rattle.route_certificate.specs.Forms.{step_line, FitsStep}
use Rattle.route_certificate.proofs.walk_lines.read_steps.Given as goal

abbrev pub invariant-loop-step : goal.invariant-loop-step
invariant-loop-step l = (l.text ≡ flat_map step_line l.steps.items ++ l.rest) × AllByRecursion FitsStep l.steps.items

abbrev pub decreases-loop-step : goal.decreases-loop-step
decreases-loop-step l = length l.rest
