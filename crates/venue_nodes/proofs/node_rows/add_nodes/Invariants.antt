use Rattle.std.proofs.Common.{◌≡◌, ◌++◌, map, take}
use Rattle.venue_nodes.specs.Nodes.{node_of_row}
use Rattle.venue_nodes.proofs.node_rows.add_nodes.Given as goal

-- the nodes of the rows before are added
abbrev pub invariant-loop-row : goal.invariant-loop-row
invariant-loop-row g l = l.nodes.items ≡ l.initial.nodes.items ++ map (λ row. node_of_row (g.R.HasNode.row_of row)) (take l.row-index l.rows)
