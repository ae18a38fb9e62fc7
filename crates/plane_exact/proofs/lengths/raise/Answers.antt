use Rattle.std.proofs.Common.{arith}
use Rattle.plane_exact.proofs.lengths.raise.Goals as goal

pub returns-clause-bound : goal.returns-clause-bound
returns-clause-bound c = c.loop-c.invariant 5700000 (omega arith)
