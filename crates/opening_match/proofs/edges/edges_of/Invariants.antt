use Rattle.std.proofs.Common.{flat_map, drop, []}
use Rattle.plane_exact.specs.Figure.{part_edges, part_points}
use Rattle.opening_match.proofs.EdgeLists.{Leads}
use Rattle.opening_match.proofs.edges.edges_of.Given as goal

-- the edges of the polygons from here on are what is left to add
abbrev pub invariant-loop-part : goal.invariant-loop-part
invariant-loop-part l = Leads [] (flat_map part_edges l.fn.shape.parts) (flat_map part_points l.fn.shape.parts) l.list.items (flat_map part_edges (drop l.part-index l.fn.shape.parts)) (flat_map part_points (drop l.part-index l.fn.shape.parts))
