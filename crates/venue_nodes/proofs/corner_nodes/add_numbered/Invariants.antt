use Rattle.std.proofs.Common.{◌≡◌, ◌+◌, ◌++◌, map, drop}
use Rattle.venue_nodes.specs.Nodes.{node_of_row, corner_rows_from}
use Rattle.venue_nodes.proofs.corner_nodes.add_numbered.Given as goal

-- with the nodes of the points ahead all are added
abbrev pub invariant-loop-point : goal.invariant-loop-point
invariant-loop-point l = (l.number ≡ l.point-index + 1) × (l.nodes.items ++ map node_of_row (corner_rows_from l.unit l.number (drop l.point-index l.points)) ≡ l.initial.nodes.items ++ map node_of_row (corner_rows_from l.unit 1 l.points))
