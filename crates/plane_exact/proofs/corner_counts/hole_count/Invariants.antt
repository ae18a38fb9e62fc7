use Rattle.std.proofs.Common.{◌≡◌, ◌+◌, length, drop, flat_map}
use Rattle.plane_exact.specs.Figure.{AllNearby, ring_points}
use Rattle.plane_exact.specs.Corners.{hole_corners}
use Rattle.plane_exact.proofs.corner_counts.hole_count.Given as goal

-- the corners so far and those of the holes ahead make up all
abbrev pub invariant-loop-hole : goal.invariant-loop-hole
invariant-loop-hole l = record {
  near : AllNearby (ring_points (drop l.hole-index l.holes));
  whole : l.count + length (flat_map hole_corners (drop l.hole-index l.holes)) ≡ length (flat_map hole_corners l.holes);
}
