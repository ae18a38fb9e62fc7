use Rattle.std.proofs.Common.{◌≡◌, map, take}
use Rattle.venue_types.specs.declared.features.OccupantRow.{OccupantRow}
use Rattle.venue_nodes.proofs.ids.anchors_of.Given as goal

-- the anchors of the occupants before
abbrev pub invariant-loop-occupant : goal.invariant-loop-occupant
invariant-loop-occupant l = l.anchors.items ≡ map (λ (row : OccupantRow). row.anchor) (take l.occupant-index l.occupants)
