use Rattle.std.proofs.Common.{◌↔◌, drop}
use Rattle.contain_rules.specs.Judging.{SomeLeaves}
use Rattle.contain_rules.proofs.outside_positions.some_leaves.Given as goal

-- the positions ahead decide, since each of those behind is held
abbrev pub invariant-loop-p : goal.invariant-loop-p
invariant-loop-p l = SomeLeaves l.tolerance l.shape (drop l.p-index l.points) ↔ SomeLeaves l.tolerance l.shape l.points
