use Rattle.std.proofs.Common.{◌≡◌, ◌+◌, length, drop, flat_map}
use Rattle.plane_exact.specs.Figure.{AllNearby, part_points}
use Rattle.plane_exact.specs.Corners.{part_corners, corners}
use Rattle.plane_exact.proofs.corner_counts.corner_count.Given as goal

-- the corners so far and those of the polygons ahead make up all
abbrev pub invariant-loop-part : goal.invariant-loop-part
invariant-loop-part l = record {
  near : AllNearby (flat_map part_points (drop l.part-index l.shape.parts));
  whole : l.count + length (flat_map part_corners (drop l.part-index l.shape.parts)) ≡ length (corners l.shape);
}
