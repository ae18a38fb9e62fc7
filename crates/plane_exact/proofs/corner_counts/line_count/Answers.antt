use Rattle.plane_exact.proofs.WalkLemmas.{count_turn, line_step, line_turn}
use Rattle.plane_exact.proofs.AreaLemmas.{origin_start}
use Rattle.plane_exact.proofs.corner_counts.line_count.Goals as goal

pub is_corner-requires-clause-step : goal.is_corner-requires-clause-step
is_corner-requires-clause-step c = origin_start c.loop-c.a c.loop-c.b _ c.loop-c.invariant.near

pub is_corner-requires-clause-turn : goal.is_corner-requires-clause-turn
is_corner-requires-clause-turn c = line_turn c.loop-c.a c.loop-c.b c.args.rest.now c.loop-c.c-index _ c.loop-c-test.true c.loop-c.invariant.near

pub loop-c-preserved : goal.loop-c-preserved
loop-c-preserved c = record {
  near = line_step c.loop-c.a c.loop-c.b _ c.args.rest.now c.loop-c.c-index _ c.loop-c-test.true c.point_before-a.ensures c.loop-c.invariant.near;
  whole = count_turn _ c.loop-c.count _ c.loop-c.a c.loop-c.b _ c.args.rest.now c.loop-c.c-index _ _ c.loop-c-test.true c.is_corner.ensures c.point_before-a.ensures c.loop-c.invariant.whole;
}
