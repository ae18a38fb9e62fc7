use Rattle.std.proofs.Common.{◌≡◌, ◌++◌, drop, flat_map}
use Rattle.plane_exact.specs.Figure.{AllNearby, ring_points}
use Rattle.plane_exact.specs.Corners.{hole_corners}
use Rattle.plane_exact.proofs.turns.add_holes.Given as goal

-- the corners so far and those of the holes ahead make up all
abbrev pub invariant-loop-hole : goal.invariant-loop-hole
invariant-loop-hole l = record {
  near : AllNearby (ring_points (drop l.hole-index l.holes));
  whole : l.list.items ++ flat_map hole_corners (drop l.hole-index l.holes) ≡ l.initial.list.items ++ flat_map hole_corners l.holes;
}
