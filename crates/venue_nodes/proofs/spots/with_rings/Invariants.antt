use Rattle.std.proofs.Common.{◌≡◌, take}
use Rattle.plane_exact.specs.Figure.{ring_points}
use Rattle.venue_nodes.specs.Bounds.{with_all}
use Rattle.venue_nodes.proofs.spots.with_rings.Given as goal

-- the points of the rings before are in it
abbrev pub invariant-loop-ring : goal.invariant-loop-ring
invariant-loop-ring l = l.grown ≡ with_all l.fn.bounds (ring_points (take l.ring-index l.rings))
