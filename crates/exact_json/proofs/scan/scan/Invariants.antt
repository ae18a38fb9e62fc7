use Rattle.std.proofs.Common.{true, length}
use Rattle.exact_json.specs.Scanning.{Scanning}
use Rattle.exact_json.proofs.scan.scan.Given as goal

abbrev pub invariant-loop-kinds : goal.invariant-loop-kinds
invariant-loop-kinds l = Scanning l.text l.kinds true l.rest

abbrev pub decreases-loop-kinds : goal.decreases-loop-kinds
decreases-loop-kinds l = length l.rest
