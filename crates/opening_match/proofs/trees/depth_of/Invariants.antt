use Rattle.std.proofs.Common.{◌+◌, ◌≤◌}
use Rattle.opening_match.proofs.trees.depth_of.Given as goal

abbrev pub invariant-loop-left : goal.invariant-loop-left
invariant-loop-left l = l.depth + l.left ≤ l.fn.items

abbrev pub decreases-loop-left : goal.decreases-loop-left
decreases-loop-left l = l.left
