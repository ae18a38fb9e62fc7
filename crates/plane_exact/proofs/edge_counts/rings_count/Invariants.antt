use Rattle.std.proofs.Common.{◌≡◌, ◌+◌, length, drop}
use Rattle.plane_exact.specs.Figure.{ring_edges}
use Rattle.plane_exact.proofs.edge_counts.rings_count.Given as goal

-- the edges so far and those of the rings ahead make up all
abbrev pub invariant-loop-ring : goal.invariant-loop-ring
invariant-loop-ring l = l.count + length (ring_edges (drop l.ring-index l.rings)) ≡ length (ring_edges l.rings)
