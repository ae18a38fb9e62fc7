use Rattle.std.proofs.Common.{◌↔◌, drop}
use Rattle.plane_exact.specs.Figure.{ring_points}
use Rattle.contain_rules.specs.Judging.{SomeLeaves}
use Rattle.contain_rules.proofs.outside_positions.rings_leave.Given as goal

-- the rings ahead decide
abbrev pub invariant-loop-ring : goal.invariant-loop-ring
invariant-loop-ring l = SomeLeaves l.tolerance l.shape (ring_points (drop l.ring-index l.rings)) ↔ SomeLeaves l.tolerance l.shape (ring_points l.rings)
