use Rattle.std.proofs.Common.{List, ◌++◌, map, filter, flat_map, ap, ◌∙◌}
use Rattle.std.proofs.lemmas.List.{take_all}
use Rattle.venue_types.specs.declared.features.UnitRow.{UnitRow}
use Rattle.venue_nodes.specs.Naming.{can_walk, corner_names, named_by_corners, numbers}
use Rattle.venue_nodes.proofs.named_units.add_corners.Goals as goal

pub returns : goal.returns
unfolding named_by_corners
returns c =
    let numbers_of = numbers c.args.walkables.now.ids.items in
    c.loop-unit.invariant
    ∙ ap (λ (units : List UnitRow). c.args.lists.now ++ map numbers_of (flat_map (corner_names c.args.inside) (filter can_walk units))) (take_all c.loop-unit.unit-index c.args.units.now c.loop-unit-test.false)
