use Rattle.std.proofs.Common.{◌≤◌, ◌*◌, ◌≢◌}
use Rattle.plane_exact.proofs.lengths.lower.Given as goal

-- below the guess, c still reaches the square
abbrev pub invariant-loop-c : goal.invariant-loop-c
invariant-loop-c l = (l.c ≤ 5700000) × (l.c ≢ l.initial.c → l.square ≤ 4000000000000000000 * (l.c * l.c))

abbrev pub decreases-loop-c : goal.decreases-loop-c
decreases-loop-c l = l.c
