use Rattle.std.proofs.Common.{ℕ, ◌≤◌, ◌*◌, ◌-◌}
use Rattle.plane_exact.proofs.lengths.raise.Given as goal

-- no less than c reaches the square
abbrev pub invariant-loop-c : goal.invariant-loop-c
invariant-loop-c l = (m : ℕ) → l.square ≤ 4000000000000000000 * (m * m) → l.c ≤ m

abbrev pub decreases-loop-c : goal.decreases-loop-c
decreases-loop-c l = 5700000 - l.c
