use Rattle.std.proofs.Common.{ℕ, ◌≡◌, ◌<◌, ◌==◌, not}
use Rattle.unit_sight.specs.Tables.{joins}
use Rattle.unit_sight.proofs.whole.is_row_whole.Given as goal

abbrev pub invariant-loop-j : goal.invariant-loop-j
invariant-loop-j l = (m : ℕ) → m < l.j → joins l.bits l.i m ≡ not (l.i == m)
