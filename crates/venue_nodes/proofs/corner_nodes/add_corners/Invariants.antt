use Rattle.std.proofs.Common.{◌≡◌, ◌++◌, map, filter, flat_map, drop, length}
use Rattle.venue_types.specs.declared.features.UnitRow.{UnitRow}
use Rattle.venue_nodes.specs.Naming.{can_walk}
use Rattle.venue_nodes.specs.Nodes.{node_of_row, corner_points, corner_rows}
use Rattle.venue_nodes.specs.Views.{ranges_from}
use Rattle.venue_nodes.proofs.corner_nodes.add_corners.Given as goal

-- with the nodes and the ranges of the units ahead all are added
abbrev pub invariant-loop-unit : goal.invariant-loop-unit
invariant-loop-unit l =
    (l.nodes.items ++ map node_of_row (flat_map (corner_rows l.inside) (filter can_walk (drop l.unit-index l.units))) ≡ l.initial.nodes.items ++ map node_of_row (flat_map (corner_rows l.inside) (filter can_walk l.units)))
    × (l.ranges.items ++ ranges_from (length l.nodes.items) (map (λ (row : UnitRow). length (corner_points l.inside row)) (filter can_walk (drop l.unit-index l.units))) ≡ ranges_from (length l.initial.nodes.items) (map (λ (row : UnitRow). length (corner_points l.inside row)) (filter can_walk l.units)))
