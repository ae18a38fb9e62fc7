use Rattle.std.proofs.Common.{◌≡◌, take}
use Rattle.venue_nodes.specs.Bounds.{with_all}
use Rattle.venue_nodes.proofs.spots.with_points.Given as goal

-- the points before are in it
abbrev pub invariant-loop-p : goal.invariant-loop-p
invariant-loop-p l = l.grown ≡ with_all l.fn.bounds (take l.p-index l.points)
