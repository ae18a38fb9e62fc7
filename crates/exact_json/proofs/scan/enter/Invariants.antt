use Rattle.std.proofs.Common.{ℕ, ◌≤◌, List, true, length}
use Rattle.exact_json.specs.Scanning.{Scanning}
use Rattle.exact_json.proofs.scan.enter.Given as goal

abbrev pub invariant-loop-kind : goal.invariant-loop-kind
invariant-loop-kind l = ((all : List ℕ) → Scanning all l.initial.kinds true l.text → Scanning all l.kinds true l.rest) × (length l.rest ≤ length l.text)

abbrev pub decreases-loop-kind : goal.decreases-loop-kind
decreases-loop-kind l = length l.rest
