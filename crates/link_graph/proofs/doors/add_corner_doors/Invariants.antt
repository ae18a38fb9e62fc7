use Rattle.std.proofs.Common.{◌≡◌, ◌≤◌, ◌++◌}
use Rattle.venue_nodes.specs.Views.{corner_ranges, find_closable}
use Rattle.link_graph.proofs.MadeDoors.{copies_left}
use Rattle.link_graph.proofs.doors.add_corner_doors.Given as goal

-- with the copies for the units ahead all are added, and no more of those before than all can be walked through
abbrev pub invariant-loop-unit : goal.invariant-loop-unit
invariant-loop-unit l = record {
  added : l.doors.items ++ copies_left (find_closable l.nodes) (corner_ranges l.nodes) l.w l.units l.unit-index ≡ l.initial.doors.items ++ copies_left (find_closable l.nodes) (corner_ranges l.nodes) 0 l.units 0;
  below : l.w ≤ l.unit-index;
}
