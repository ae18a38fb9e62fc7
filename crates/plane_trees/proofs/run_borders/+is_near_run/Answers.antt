use Rattle.std.proofs.Common.{Any, arith}
use Rattle.plane_exact.specs.Segment.{IsNearEdge}
use Rattle.plane_exact.specs.Figure.{Edge, IsNearSome}
use Rattle.plane_trees.specs.Trees.{run_points, run_edges}
use Rattle.plane_exact.proofs.NearbyLemmas.{AllNearby-within}
use Rattle.plane_trees.proofs.RunLemmas.{enough, left_over, any_of_parts, any_from_front, any_from_back}
use Rattle.plane_trees.proofs.run_borders.+is_near_run.Goals as goal

pub is_near_run-requires : goal.is_near_run-requires
is_near_run-requires t c =
    let half = c.in-Some.ensures in
    (omega (arith, half.front_depth), (AllNearby-within c.args.asked.now.position (run_points c.in-Some.front) (run_points c.args.run) half.front_points c.requires.close, (half.front_sound c.args.asked.now.origin c.requires.sound, (c.requires.measured, c.requires.tolerance))))

pub is_near_run-requires-else-is_near_run : goal.is_near_run-requires-else-is_near_run
is_near_run-requires-else-is_near_run t c =
    let half = c.in-Some.ensures in
    (omega (arith, half.back_depth), (AllNearby-within c.args.asked.now.position (run_points c.in-Some.back) (run_points c.args.run) half.back_points c.requires.close, (half.back_sound c.args.asked.now.origin c.requires.sound, (c.requires.measured, c.requires.tolerance))))

pub returns-then-is_near_run : goal.returns-then-is_near_run
returns-then-is_near_run t c =
    let P = λ (edge : Edge). IsNearEdge c.args.asked.now.position edge.from edge.to c.args.t in
    enough c.is_near_run.result _ _ c.if-is_near_run.true c.is_near_run.ensures (any_from_front P (run_edges c.args.run) (run_edges c.in-Some.front) (run_edges c.in-Some.back) c.in-Some.ensures.edges)

pub returns-else-is_near_run : goal.returns-else-is_near_run
returns-else-is_near_run t c =
    let P = λ (edge : Edge). IsNearEdge c.args.asked.now.position edge.from edge.to c.args.t in
    let front = run_edges c.in-Some.front in
    let back = run_edges c.in-Some.back in
    left_over c.is_near_run.result c.is_near_run-else-is_near_run.result (Any P front) (Any P back) _ c.if-is_near_run.false c.is_near_run.ensures c.is_near_run-else-is_near_run.ensures
    (any_from_front P (run_edges c.args.run) front back c.in-Some.ensures.edges) (any_from_back P (run_edges c.args.run) front back c.in-Some.ensures.edges) (any_of_parts P (run_edges c.args.run) front back c.in-Some.ensures.edges)
