use Rattle.std.proofs.Common.{arith}
use Rattle.plane_exact.specs.Figure.{Edge}
use Rattle.plane_trees.specs.Trees.{run_points, run_edges, CrossesSome, CrossEachOther}
use Rattle.plane_exact.proofs.NearbyLemmas.{AllNearby-parts}
use Rattle.plane_trees.proofs.RunLemmas.{enough, left_over, any_of_parts, any_from_front, any_from_back, others_parts, others_front, others_back}
use Rattle.plane_trees.proofs.run_crossings.+runs_cross.Goals as goal

pub runs_cross-requires : goal.runs_cross-requires
runs_cross-requires t c =
    let half = c.in-Some.ensures in
    (omega (arith, half.front_depth), (AllNearby-parts (run_points c.args.one) (run_points c.args.other) (run_points c.in-Some.front) (run_points c.args.other) half.front_points (λ q h. h) c.requires.close, (half.front_sound c.args.origin c.requires.one_sound, c.requires.other_sound)))

pub runs_cross-requires-else-runs_cross : goal.runs_cross-requires-else-runs_cross
runs_cross-requires-else-runs_cross t c =
    let half = c.in-Some.ensures in
    (omega (arith, half.back_depth), (AllNearby-parts (run_points c.args.one) (run_points c.args.other) (run_points c.in-Some.back) (run_points c.args.other) half.back_points (λ q h. h) c.requires.close, (half.back_sound c.args.origin c.requires.one_sound, c.requires.other_sound)))

pub runs_cross-requires-in-Some-halves : goal.runs_cross-requires-in-Some-halves
runs_cross-requires-in-Some-halves t c =
    let half = c.in-Some-halves.ensures in
    (omega (arith, half.front_depth), (AllNearby-parts (run_points c.args.one) (run_points c.args.other) (run_points c.args.one) (run_points c.in-Some-halves.front) (λ q h. h) half.front_points c.requires.close, (c.requires.one_sound, half.front_sound c.args.origin c.requires.other_sound)))

pub runs_cross-requires-else-runs_cross-2 : goal.runs_cross-requires-else-runs_cross-2
runs_cross-requires-else-runs_cross-2 t c =
    let half = c.in-Some-halves.ensures in
    (omega (arith, half.back_depth), (AllNearby-parts (run_points c.args.one) (run_points c.args.other) (run_points c.args.one) (run_points c.in-Some-halves.back) (λ q h. h) half.back_points c.requires.close, (c.requires.one_sound, half.back_sound c.args.origin c.requires.other_sound)))

pub returns-then-runs_cross : goal.returns-then-runs_cross
returns-then-runs_cross t c =
    let P = λ (edge : Edge). CrossesSome edge.from edge.to (run_edges c.args.other) in
    enough c.runs_cross.result _ _ c.if-runs_cross.true c.runs_cross.ensures (any_from_front P (run_edges c.args.one) (run_edges c.in-Some.front) (run_edges c.in-Some.back) c.in-Some.ensures.edges)

pub returns-else-runs_cross : goal.returns-else-runs_cross
returns-else-runs_cross t c =
    let P = λ (edge : Edge). CrossesSome edge.from edge.to (run_edges c.args.other) in
    let whole = run_edges c.args.one in
    let front = run_edges c.in-Some.front in
    let back = run_edges c.in-Some.back in
    let parts = c.in-Some.ensures.edges in
    left_over c.runs_cross.result c.runs_cross-else-runs_cross.result (CrossEachOther front (run_edges c.args.other)) (CrossEachOther back (run_edges c.args.other)) _ c.if-runs_cross.false c.runs_cross.ensures c.runs_cross-else-runs_cross.ensures
    (any_from_front P whole front back parts) (any_from_back P whole front back parts) (any_of_parts P whole front back parts)

pub returns-then-runs_cross-2 : goal.returns-then-runs_cross-2
returns-then-runs_cross-2 t c = enough c.runs_cross-in-Some-halves.result _ _ c.if-runs_cross-2.true c.runs_cross-in-Some-halves.ensures (others_front (run_edges c.args.one) (run_edges c.args.other) (run_edges c.in-Some-halves.front) (run_edges c.in-Some-halves.back) c.in-Some-halves.ensures.edges)

pub returns-else-runs_cross-2 : goal.returns-else-runs_cross-2
returns-else-runs_cross-2 t c =
    let one = run_edges c.args.one in
    let whole = run_edges c.args.other in
    let front = run_edges c.in-Some-halves.front in
    let back = run_edges c.in-Some-halves.back in
    let parts = c.in-Some-halves.ensures.edges in
    left_over c.runs_cross-in-Some-halves.result c.runs_cross-else-runs_cross-2.result (CrossEachOther one front) (CrossEachOther one back) _ c.if-runs_cross-2.false c.runs_cross-in-Some-halves.ensures c.runs_cross-else-runs_cross-2.ensures
    (others_front one whole front back parts) (others_back one whole front back parts) (others_parts one whole front back parts)
