use Rattle.std.proofs.Common.{◌≡◌, ◌++◌, drop, map}
use Rattle.plane_exact.specs.Scaled.{scaled_part}
use Rattle.plane_exact.proofs.scaling.scaled.Given as goal

-- the polygons so far and those ahead make up all
abbrev pub invariant-loop-part : goal.invariant-loop-part
invariant-loop-part l = l.parts.items ++ map (scaled_part l.k) (drop l.part-index l.shape.parts) ≡ map (scaled_part l.k) l.shape.parts
