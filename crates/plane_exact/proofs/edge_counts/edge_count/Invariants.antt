use Rattle.std.proofs.Common.{◌≡◌, ◌+◌, length, drop, flat_map}
use Rattle.plane_exact.specs.Figure.{part_edges, all_edges}
use Rattle.plane_exact.proofs.edge_counts.edge_count.Given as goal

-- the edges so far and those of the polygons ahead make up all
abbrev pub invariant-loop-part : goal.invariant-loop-part
invariant-loop-part l = l.count + length (flat_map part_edges (drop l.part-index l.shape.parts)) ≡ length (all_edges l.shape)
