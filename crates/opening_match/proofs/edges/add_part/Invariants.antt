use Rattle.std.proofs.Common.{flat_map, drop}
use Rattle.venue_types.specs.declared.point.Ring.{Ring}
use Rattle.plane_exact.specs.Figure.{edges, part_edges, part_points}
use Rattle.opening_match.proofs.EdgeLists.{Leads}
use Rattle.opening_match.proofs.edges.add_part.Given as goal

-- the edges of the holes from here on are what is left to add
abbrev pub invariant-loop-hole : goal.invariant-loop-hole
invariant-loop-hole l = Leads l.fn.list.items (part_edges l.fn.part) (part_points l.fn.part) l.list.items (flat_map (λ (ring : Ring). edges ring.points) (drop l.hole-index l.fn.part.holes)) (flat_map (λ (ring : Ring). ring.points) (drop l.hole-index l.fn.part.holes))
