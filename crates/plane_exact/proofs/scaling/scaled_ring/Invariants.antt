use Rattle.std.proofs.Common.{◌≡◌, ◌++◌, drop, map}
use Rattle.plane_exact.specs.Scaled.{times}
use Rattle.plane_exact.proofs.scaling.scaled_ring.Given as goal

-- the points so far and those ahead make up all
abbrev pub invariant-loop-point : goal.invariant-loop-point
invariant-loop-point l = l.points.items ++ map (times l.k) (drop l.point-index l.ring.points) ≡ map (times l.k) l.ring.points
