use Rattle.std.proofs.Common.{◌≡◌, ◌++◌, map, filter, take}
use Rattle.venue_types.specs.declared.features.UnitRow.{UnitRow}
use Rattle.imdf_access.specs.Categories.{is_walkable}
use Rattle.venue_nodes.specs.Nodes.{node_of_row, unit}
use Rattle.venue_nodes.proofs.node_rows.add_unit_nodes.Given as goal

-- the nodes of the units before are added
abbrev pub invariant-loop-unit : goal.invariant-loop-unit
invariant-loop-unit l = l.nodes.items ≡ l.initial.nodes.items ++ map (λ row. node_of_row (unit row)) (filter (λ (row : UnitRow). is_walkable row.category) (take l.unit-index l.units))
