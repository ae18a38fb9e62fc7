use Rattle.std.proofs.Common.{ℕ, ◌≡◌, ◌<◌, ◌==◌, not, length}
use Rattle.unit_sight.specs.Tables.{joins}
use Rattle.unit_sight.proofs.whole.is_whole.Given as goal

abbrev pub invariant-loop-i : goal.invariant-loop-i
invariant-loop-i l = (a j : ℕ) → a < l.i → j < length l.bits → joins l.bits a j ≡ not (a == j)
