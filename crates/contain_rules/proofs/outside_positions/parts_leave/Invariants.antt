use Rattle.std.proofs.Common.{◌↔◌, drop, flat_map}
use Rattle.plane_exact.specs.Figure.{part_points}
use Rattle.contain_rules.specs.Judging.{SomeLeaves}
use Rattle.contain_rules.proofs.outside_positions.parts_leave.Given as goal

-- the polygons ahead decide
abbrev pub invariant-loop-part : goal.invariant-loop-part
invariant-loop-part l = SomeLeaves l.tolerance l.shape (flat_map part_points (drop l.part-index l.parts)) ↔ SomeLeaves l.tolerance l.shape (flat_map part_points l.parts)
