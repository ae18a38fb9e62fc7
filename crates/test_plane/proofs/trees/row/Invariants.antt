use Rattle.std.proofs.Common.{All, flat_map}
use Rattle.test_figures.specs.Boxes.{IsInBox}
use Rattle.plane_exact.specs.Figure.{part_points}
use Rattle.test_plane.proofs.trees.row.Given as goal

abbrev pub invariant-loop-i : goal.invariant-loop-i
invariant-loop-i l = All IsInBox (flat_map part_points l.parts.items)
