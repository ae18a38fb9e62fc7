use Rattle.std.proofs.Common.{take}
use Rattle.opening_match.specs.Frames.{Grows}
use Rattle.opening_match.proofs.frame.with_points.Given as goal

-- the points before are in it
abbrev pub invariant-loop-p : goal.invariant-loop-p
invariant-loop-p l = Grows l.fn.frame l.grown (take l.p-index l.points)
