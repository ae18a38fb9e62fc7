use Rattle.std.proofs.Common.{take}
use Rattle.plane_exact.specs.Figure.{ring_points}
use Rattle.opening_match.specs.Frames.{Grows}
use Rattle.opening_match.proofs.frame.with_rings.Given as goal

-- the points of the rings before are in it
abbrev pub invariant-loop-ring : goal.invariant-loop-ring
invariant-loop-ring l = Grows l.fn.frame l.grown (ring_points (take l.ring-index l.rings))
