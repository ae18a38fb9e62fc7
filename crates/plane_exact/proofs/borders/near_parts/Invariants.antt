use Rattle.std.proofs.Common.{◌∷◌, ◌↔◌, drop, flat_map}
use Rattle.plane_exact.specs.Figure.{AllNearby, part_points, part_edges, IsNearSome}
use Rattle.plane_exact.proofs.borders.near_parts.Given as goal

-- the polygons ahead decide
abbrev pub invariant-loop-part : goal.invariant-loop-part
invariant-loop-part l = record {
  close : AllNearby (l.p ∷ flat_map part_points (drop l.part-index l.parts));
  ahead : IsNearSome l.p l.t (flat_map part_edges (drop l.part-index l.parts)) ↔ IsNearSome l.p l.t (flat_map part_edges l.parts);
}
