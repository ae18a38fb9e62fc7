use Rattle.std.proofs.Common.{◌≡◌, ◌∷◌, ◌+◌, ◌%◌, cond, drop, flat_map}
use Rattle.plane_exact.specs.Figure.{AllNearby, part_points, part_edges, crossings}
use Rattle.plane_exact.proofs.rays.is_odd_at_parts.Given as goal

-- what was met so far and what is met ahead make up all
abbrev pub invariant-loop-part : goal.invariant-loop-part
invariant-loop-part l = record {
  close : AllNearby (l.p ∷ flat_map part_points (drop l.part-index l.parts));
  parity : (cond l.odd 1 0 + crossings l.p (flat_map part_edges (drop l.part-index l.parts))) % 2 ≡ crossings l.p (flat_map part_edges l.parts) % 2;
}
