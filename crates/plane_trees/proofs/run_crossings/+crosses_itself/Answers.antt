use Rattle.std.proofs.Common.{refl, arith}
use Rattle.plane_trees.specs.Trees.{run_points, run_edges}
use Rattle.plane_exact.proofs.NearbyLemmas.{AllNearby-both, AllNearby-fewer}
use Rattle.plane_exact.proofs.SegmentLemmas.{iff_along}
use Rattle.plane_trees.proofs.RunLemmas.{own_crossing, own_of_front, own_of_back, own_left_over}
use Rattle.plane_trees.proofs.run_crossings.+crosses_itself.Goals as goal

pub lines_cross-requires : goal.lines_cross-requires
lines_cross-requires t c = AllNearby-both (run_points c.args.run) (run_points c.args.run) (run_points c.args.run) (λ q h. h) (λ q h. h) c.requires.close

pub crosses_itself-requires : goal.crosses_itself-requires
crosses_itself-requires t c =
    let half = c.in-Some.ensures in
    (omega (arith, half.front_depth), (AllNearby-fewer (run_points c.in-Some.front) (run_points c.args.run) half.front_points c.requires.close, half.front_sound c.args.origin c.requires.sound))

pub runs_cross-requires-clause-close : goal.runs_cross-requires-clause-close
runs_cross-requires-clause-close t c = AllNearby-both (run_points c.args.run) (run_points c.in-Some.front) (run_points c.in-Some.back) c.in-Some.ensures.front_points c.in-Some.ensures.back_points c.requires.close

pub crosses_itself-requires-in-Some : goal.crosses_itself-requires-in-Some
crosses_itself-requires-in-Some t c =
    let half = c.in-Some.ensures in
    (omega (arith, half.back_depth), (AllNearby-fewer (run_points c.in-Some.back) (run_points c.args.run) half.back_points c.requires.close, half.back_sound c.args.origin c.requires.sound))

pub returns-then-crosses_itself : goal.returns-then-crosses_itself
returns-then-crosses_itself t c = (λ _. own_of_front (run_edges c.args.run) (run_edges c.in-Some.front) (run_edges c.in-Some.back) c.in-Some.ensures.edges (c.crosses_itself.ensures.0 c.if-crosses_itself.true), λ _. refl)

pub returns-then-crosses_itself-2 : goal.returns-then-crosses_itself-2
returns-then-crosses_itself-2 t c = (λ _. own_of_back (run_edges c.args.run) (run_edges c.in-Some.front) (run_edges c.in-Some.back) c.in-Some.ensures.edges (c.crosses_itself-in-Some.ensures.0 c.if-crosses_itself-2.true), λ _. refl)

pub returns-else-crosses_itself-2 : goal.returns-else-crosses_itself-2
returns-else-crosses_itself-2 t c =
    own_left_over c.crosses_itself.result c.crosses_itself-in-Some.result c.runs_cross.result (run_edges c.args.run) (run_edges c.in-Some.front) (run_edges c.in-Some.back) c.in-Some.ensures.edges
    c.if-crosses_itself.false c.if-crosses_itself-2.false c.crosses_itself.ensures c.crosses_itself-in-Some.ensures c.runs_cross.ensures
