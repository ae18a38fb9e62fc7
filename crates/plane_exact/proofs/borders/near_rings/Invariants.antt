use Rattle.std.proofs.Common.{◌∷◌, ◌↔◌, drop}
use Rattle.plane_exact.specs.Figure.{AllNearby, ring_points, ring_edges, IsNearSome}
use Rattle.plane_exact.proofs.borders.near_rings.Given as goal

-- the rings ahead decide
abbrev pub invariant-loop-ring : goal.invariant-loop-ring
invariant-loop-ring l = record {
  close : AllNearby (l.p ∷ ring_points (drop l.ring-index l.rings));
  ahead : IsNearSome l.p l.t (ring_edges (drop l.ring-index l.rings)) ↔ IsNearSome l.p l.t (ring_edges l.rings);
}
