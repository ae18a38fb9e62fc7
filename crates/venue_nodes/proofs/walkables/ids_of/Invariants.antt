use Rattle.std.proofs.Common.{◌≡◌, map, filter, take}
use Rattle.venue_nodes.specs.Naming.{can_walk, unit_id}
use Rattle.venue_nodes.proofs.walkables.ids_of.Given as goal

abbrev pub invariant-loop-unit : goal.invariant-loop-unit
invariant-loop-unit l = l.ids.items ≡ map unit_id (filter can_walk (take l.unit-index l.units))
