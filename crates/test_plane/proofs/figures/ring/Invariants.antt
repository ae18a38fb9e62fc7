use Rattle.std.proofs.Common.{All}
use Rattle.test_figures.specs.Boxes.{IsInBox}
use Rattle.test_plane.proofs.figures.ring.Given as goal

abbrev pub invariant-loop-point : goal.invariant-loop-point
invariant-loop-point l = All IsInBox l.list.items
