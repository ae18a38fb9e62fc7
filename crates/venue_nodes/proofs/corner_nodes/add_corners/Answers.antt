use Rattle.std.proofs.Common.{Vec, Global, List, sym, ◌∙◌, ap}
use Rattle.venue_types.specs.declared.link.Node.{Node}
use Rattle.imdf_access.specs.Categories.{is_walkable}
use Rattle.venue_nodes.specs.declared.corner_nodes.CornerRange.{CornerRange}
use Rattle.venue_nodes.proofs.CornerSteps.{units_few, nodes_step, nodes_past, ranges_step, ranges_past}
use Rattle.venue_nodes.proofs.corner_nodes.add_corners.Goals as goal
use Rattle.venue_nodes.proofs.corner_nodes.add_corners.Goals.{then-walkable+in_ok-add_unit_corners+in_ok-push, else-walkable}

abbrev nodes_of : Vec Node Global → List Node
nodes_of vec = vec.items

abbrev ranges_of : Vec CornerRange Global → List CornerRange
ranges_of vec = vec.items

pub add_unit_corners-requires-clause-few : goal.add_unit_corners-requires-clause-few
add_unit_corners-requires-clause-few c =
    units_few c.args.inside c.args.units.now c.loop-unit.unit-index c.unit-item.result _ c.args.nodes.now.items c.loop-unit.nodes.items c.loop-unit-test.true (sym c.unit-item.is)
    (sym (ap is_walkable (c.as_bytes.ensures.value ∙ c.as_str.ensures.value)) ∙ sym c.if-walkable.ensures) c.loop-unit.invariant.0 c.requires.few

pub loop-unit-preserved : goal.loop-unit-preserved
loop-unit-preserved c =
    let inside = c.args.inside in
    let units = c.args.units.now in
    let i = c.loop-unit.unit-index in
    let row = c.unit-item.result in
    let walks = sym (ap is_walkable (c.as_bytes.ensures.value ∙ c.as_str.ensures.value)) ∙ sym c.walkable.ensures in
    elim c.if-walkable.branch [
      | then-walkable+in_ok-add_unit_corners+in_ok-push w ↦
          let grown = ap nodes_of w.nodes-is ∙ w.in_ok-add_unit_corners.ensures.nodes in
          let added = ap ranges_of w.ranges-is ∙ w.in_ok-push.ensures.items in (
            nodes_step inside units i row _ c.loop-unit.nodes.items c.if-walkable.nodes.items _ c.loop-unit-test.true (sym c.unit-item.is) (walks ∙ w.if-walkable.true) c.loop-unit.invariant.0 grown,
            ranges_step inside units i row _ c.loop-unit.nodes.items c.if-walkable.nodes.items c.loop-unit.ranges.items c.if-walkable.ranges.items _ w.in_ok-add_unit_corners.field-0 c.loop-unit-test.true (sym c.unit-item.is) (walks ∙ w.if-walkable.true) c.loop-unit.invariant.1 grown w.in_ok-add_unit_corners.ensures.range added,
          )
      | else-walkable w ↦
          let same = ap nodes_of w.nodes-is in
          let kept = ap ranges_of w.ranges-is in (
            nodes_past inside units i row _ c.loop-unit.nodes.items c.if-walkable.nodes.items _ c.loop-unit-test.true (sym c.unit-item.is) (walks ∙ w.if-walkable.false) c.loop-unit.invariant.0 same,
            ranges_past inside units i row _ c.loop-unit.nodes.items c.if-walkable.nodes.items c.loop-unit.ranges.items c.if-walkable.ranges.items _ c.loop-unit-test.true (sym c.unit-item.is) (walks ∙ w.if-walkable.false) c.loop-unit.invariant.1 same kept,
          )
    ]
