use Rattle.std.proofs.Common.{◌≡◌, ◌++◌, map, take}
use Rattle.venue_nodes.specs.Views.{find_closable}
use Rattle.link_graph.specs.Making.{door_of}
use Rattle.link_graph.proofs.doors.add_doors.Given as goal

-- those of the rows before are added
abbrev pub invariant-loop-row : goal.invariant-loop-row
invariant-loop-row g l = l.doors.items ≡ l.initial.doors.items ++ map (λ row. door_of (find_closable l.nodes) (g.R.HasDoor.row_of row)) (take l.row-index l.rows)
