use Rattle.std.proofs.Common.{All}
use Rattle.test_figures.specs.Boxes.{IsInDoubledBox}
use Rattle.test_plane.proofs.joined.spots_of.Given as goal

abbrev pub invariant-loop-place : goal.invariant-loop-place
invariant-loop-place l = All IsInDoubledBox l.spots.items
