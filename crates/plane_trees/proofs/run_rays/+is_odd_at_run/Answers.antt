use Rattle.std.proofs.Common.{arith}
use Rattle.plane_trees.specs.Trees.{run_points, run_edges}
use Rattle.plane_exact.proofs.NearbyLemmas.{AllNearby-within}
use Rattle.plane_exact.proofs.ParityLemmas.{odd_parts}
use Rattle.plane_trees.proofs.run_rays.+is_odd_at_run.Goals as goal

pub is_odd_at_run-requires : goal.is_odd_at_run-requires
is_odd_at_run-requires t c =
    let half = c.in-Some.ensures in
    (omega (arith, half.front_depth), (AllNearby-within c.args.asked.now.position (run_points c.in-Some.front) (run_points c.args.run) half.front_points c.requires.close, (half.front_sound c.args.asked.now.origin c.requires.sound, c.requires.measured)))

pub is_odd_at_run-requires-in-Some : goal.is_odd_at_run-requires-in-Some
is_odd_at_run-requires-in-Some t c =
    let half = c.in-Some.ensures in
    (omega (arith, half.back_depth), (AllNearby-within c.args.asked.now.position (run_points c.in-Some.back) (run_points c.args.run) half.back_points c.requires.close, (half.back_sound c.args.asked.now.origin c.requires.sound, c.requires.measured)))

pub returns-in-Some : goal.returns-in-Some
returns-in-Some t c = odd_parts c.args.asked.now.position (run_edges c.args.run) (run_edges c.in-Some.front) (run_edges c.in-Some.back) c.is_odd_at_run.result c.is_odd_at_run-in-Some.result c.in-Some.ensures.edges c.is_odd_at_run.ensures c.is_odd_at_run-in-Some.ensures
