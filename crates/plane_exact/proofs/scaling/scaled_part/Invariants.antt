use Rattle.std.proofs.Common.{◌≡◌, ◌++◌, drop, map}
use Rattle.plane_exact.specs.Scaled.{scaled_ring}
use Rattle.plane_exact.proofs.scaling.scaled_part.Given as goal

-- the holes so far and those ahead make up all
abbrev pub invariant-loop-hole : goal.invariant-loop-hole
invariant-loop-hole l = l.holes.items ++ map (scaled_ring l.k) (drop l.hole-index l.part.holes) ≡ map (scaled_ring l.k) l.part.holes
