use Rattle.std.proofs.Common.{ℕ, ◌≤◌, List, false, length}
use Rattle.exact_json.specs.Scanning.{Scanning}
use Rattle.exact_json.proofs.scan.leave.Given as goal

abbrev pub invariant-loop-kind : goal.invariant-loop-kind
invariant-loop-kind l = ((all : List ℕ) → Scanning all l.initial.kinds false l.text → Scanning all l.kinds false l.rest) × (length l.rest ≤ length l.text)

abbrev pub decreases-loop-kind : goal.decreases-loop-kind
decreases-loop-kind l = length l.rest
