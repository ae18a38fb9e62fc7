use Rattle.std.proofs.Common.{◌≡◌, length, All}
use Rattle.test_figures.specs.Boxes.{IsInBox}
use Rattle.test_figures.proofs.ring.Given as goal

-- each position so far is pushed
abbrev pub invariant-loop-point : goal.invariant-loop-point
invariant-loop-point l = record {
  inside : All IsInBox l.list.items;
  count : length l.list.items ≡ l.point-index;
}
