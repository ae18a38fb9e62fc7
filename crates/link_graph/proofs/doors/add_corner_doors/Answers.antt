use Rattle.std.proofs.Common.{List, Vec, Global, sym, ◌∙◌, ap, arith}
use Rattle.imdf_access.specs.Categories.{is_walkable}
use Rattle.venue_nodes.specs.Views.{corner_ranges, find_closable}
use Rattle.link_graph.specs.declared.parts.Door.{Door}
use Rattle.link_graph.proofs.MadeDoors.{copies_step, copies_past, copies_done}
use Rattle.link_graph.proofs.doors.add_corner_doors.Goals as goal
use Rattle.link_graph.proofs.doors.add_corner_doors.Goals.{then-walkable+in_ok-add_unit_corners, else-walkable}

abbrev doors_of : Vec Door Global → List Door
doors_of vec = vec.items

pub loop-unit-preserved : goal.loop-unit-preserved
loop-unit-preserved c =
    let find = find_closable c.args.nodes.now in
    let ranges = corner_ranges c.args.nodes.now in
    let units = c.args.units.now in
    let i = c.loop-unit.unit-index in
    let row = c.unit-item.result in
    let under = c.loop-unit.invariant.below in
    let walks = sym (ap is_walkable (c.as_bytes.ensures.value ∙ c.as_str.ensures.value)) ∙ sym c.walkable.ensures in
    elim c.if-walkable.branch [
      | then-walkable+in_ok-add_unit_corners w ↦ rw w.w-is (record {
        added = copies_step find ranges c.loop-unit.w units i row _ c.loop-unit.doors.items c.if-walkable.doors.items _ c.loop-unit-test.true (sym c.unit-item.is) (walks ∙ w.if-walkable.true) (ap doors_of w.doors-is ∙ w.in_ok-add_unit_corners.ensures) c.loop-unit.invariant.added;
        below = omega (arith, under);
      })
      | else-walkable w ↦ rw w.w-is (record {
        added = copies_past find ranges c.loop-unit.w units i row _ c.loop-unit.doors.items c.if-walkable.doors.items _ c.loop-unit-test.true (sym c.unit-item.is) (walks ∙ w.if-walkable.false) (ap doors_of w.doors-is) c.loop-unit.invariant.added;
        below = omega (arith, under);
      })
    ]

pub returns : goal.returns
returns c = copies_done (find_closable c.args.nodes.now) (corner_ranges c.args.nodes.now) c.loop-unit.w c.args.units.now c.loop-unit.unit-index c.loop-unit.doors.items _ c.loop-unit-test.false c.loop-unit.invariant.added
