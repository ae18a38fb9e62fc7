use Rattle.std.proofs.Common.{◌≡◌, take, flat_map}
use Rattle.plane_exact.specs.Figure.{part_points}
use Rattle.venue_nodes.specs.Bounds.{with_all}
use Rattle.venue_nodes.proofs.spots.with_parts.Given as goal

-- the points of the polygons before are in it
abbrev pub invariant-loop-part : goal.invariant-loop-part
invariant-loop-part l = l.grown ≡ with_all l.fn.bounds (flat_map part_points (take l.part-index l.parts))
