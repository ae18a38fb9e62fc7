use Rattle.std.proofs.Common.{◌≡◌, arith, ◌∙◌}
use Rattle.venue_nodes.specs.Naming.{numbers}
use Rattle.venue_nodes.proofs.Named.{corners_added}
use Rattle.venue_nodes.proofs.named_units.add_unit_corners.Goals as goal

pub returns : goal.returns
returns c =
    let unit = c.args.unit.now in
    let many : c.loop.counter ≡ c.corner_number-count.result = omega arith in
    corners_added (numbers c.args.walkables.now.ids.items) c.args.inside unit c.loop.counter c.in_ok-numbers.numbers.items c.args.lists.now c.loop.lists
    (many ∙ c.corner_number-count.ensures) c.in_ok-numbers.ensures c.loop.invariant
