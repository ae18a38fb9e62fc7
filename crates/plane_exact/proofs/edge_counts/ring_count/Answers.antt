use Rattle.std.proofs.Common.{arith}
use Rattle.plane_exact.proofs.CornerCounts.{edges_fewer}
use Rattle.plane_exact.proofs.edge_counts.ring_count.Goals as goal

pub overflow_cast-result : goal.overflow_cast-result
overflow_cast-result c = omega (arith, edges_fewer c.args.ring.now.points)

pub returns : goal.returns
returns c = omega (arith, edges_fewer c.args.ring.now.points)
