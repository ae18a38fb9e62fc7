use Rattle.std.proofs.Common.{take, flat_map}
use Rattle.plane_exact.specs.Figure.{part_points}
use Rattle.opening_match.specs.Frames.{Grows}
use Rattle.opening_match.proofs.frame.frame_of.Given as goal

-- the vertices of the polygons before are in it
abbrev pub invariant-loop-part : goal.invariant-loop-part
invariant-loop-part l = Grows l.initial.grown l.grown (flat_map part_points (take l.part-index l.shape.parts))
