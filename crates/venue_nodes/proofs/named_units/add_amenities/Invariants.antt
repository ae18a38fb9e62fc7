use Rattle.std.proofs.Common.{◌≡◌, ◌++◌, map, take}
use Rattle.venue_types.specs.declared.features.AmenityRow.{AmenityRow}
use Rattle.venue_nodes.specs.Naming.{numbers}
use Rattle.venue_nodes.proofs.named_units.add_amenities.Given as goal

abbrev pub invariant-loop-row : goal.invariant-loop-row
invariant-loop-row l = l.lists ≡ l.initial.lists ++ map (λ (row : AmenityRow). numbers l.walkables.ids.items row.units) (take l.row-index l.rows)
