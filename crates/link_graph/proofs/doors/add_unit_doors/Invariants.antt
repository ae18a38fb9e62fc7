use Rattle.std.proofs.Common.{◌≡◌, ◌++◌, map, filter, take}
use Rattle.venue_types.specs.declared.features.UnitRow.{UnitRow}
use Rattle.imdf_access.specs.Categories.{is_walkable}
use Rattle.venue_nodes.specs.Nodes.{unit}
use Rattle.venue_nodes.specs.Views.{find_closable}
use Rattle.link_graph.specs.Making.{door_of}
use Rattle.link_graph.proofs.doors.add_unit_doors.Given as goal

-- those of the units before are added
abbrev pub invariant-loop-unit : goal.invariant-loop-unit
invariant-loop-unit l = l.doors.items ≡ l.initial.doors.items ++ map (λ row. door_of (find_closable l.nodes) (unit row)) (filter (λ (row : UnitRow). is_walkable row.category) (take l.unit-index l.units))
