use Rattle.std.proofs.Common.{◌≡◌, ◌++◌, map, filter, take, flat_map}
use Rattle.venue_nodes.specs.Naming.{can_walk, corner_names, numbers}
use Rattle.venue_nodes.proofs.named_units.add_corners.Given as goal

abbrev pub invariant-loop-unit : goal.invariant-loop-unit
invariant-loop-unit l = l.lists ≡ l.initial.lists ++ map (numbers l.walkables.ids.items) (flat_map (corner_names l.inside) (filter can_walk (take l.unit-index l.units)))
