use Rattle.std.proofs.Common.{◌≡◌, to_z, of_z}
use mir.Syntax.{w128}
use Rattle.std.proofs.lemmas.Int.{to_z-of_z}
use Rattle.plane_exact.proofs.WalkLemmas.{turn_step, line_step, line_turn, line_done}
use Rattle.plane_exact.proofs.AreaLemmas.{origin_start}
use Rattle.plane_exact.proofs.turns.add_line.Goals as goal

pub is_corner-requires-clause-step : goal.is_corner-requires-clause-step
is_corner-requires-clause-step c = origin_start c.loop-c.a c.loop-c.b _ c.loop-c.invariant.near

pub is_corner-requires-clause-turn : goal.is_corner-requires-clause-turn
is_corner-requires-clause-turn c = line_turn c.loop-c.a c.loop-c.b c.args.rest.now c.loop-c.c-index _ c.loop-c-test.true c.loop-c.invariant.near

pub loop-c-preserved : goal.loop-c-preserved
loop-c-preserved c =
    let read : to_z w128 (of_z w128 c.args.area) ≡ c.args.area = to_z-of_z w128 c.args.area c.ranges.area in
    record {
      near = line_step c.loop-c.a c.loop-c.b _ c.args.rest.now c.loop-c.c-index _ c.loop-c-test.true c.point_before-a.ensures c.loop-c.invariant.near;
      whole = rw read (turn_step c.args.area _ _ _ c.loop-c.a c.loop-c.b _ c.args.rest.now c.loop-c.c-index _ _ c.loop-c-test.true (rw read at c.is_corner.ensures) c.point_before-a.ensures c.in_ok-add_if.ensures (rw read at c.loop-c.invariant.whole));
    }

pub returns : goal.returns
returns c =
    let read : to_z w128 (of_z w128 c.args.area) ≡ c.args.area = to_z-of_z w128 c.args.area c.ranges.area in
    line_done c.args.area _ _ c.loop-c.a c.loop-c.b c.args.rest.now c.loop-c.c-index c.loop-c-test.false (rw read at c.loop-c.invariant.whole)
