use Rattle.std.proofs.Common.{arith}
use Rattle.std.proofs.lemmas.Option.{IfSome_then}
use Rattle.plane_trees.specs.Trees.{run_points, run_edges}
use Rattle.plane_trees.proofs.WallLemmas.{near_fewer, none_then, obstacle_more, free_joined, contained_front, contained_back, contained_cases}
use Rattle.plane_trees.proofs.run_walls.+wall_of_run.Goals as goal

pub wall_of_run-requires : goal.wall_of_run-requires
wall_of_run-requires t c =
    let half = c.in-Some.ensures in
    let way = c.args.way.now in
    (omega (arith, half.front_depth), (near_fewer way.start way.end (run_points c.in-Some.front) (run_points c.args.run) half.front_points c.requires.near, (half.front_sound way.origin c.requires.sound, (c.requires.round, c.requires.tolerance))))

pub wall_of_run-requires-in-None-wall_of_run : goal.wall_of_run-requires-in-None-wall_of_run
wall_of_run-requires-in-None-wall_of_run t c =
    let half = c.in-Some.ensures in
    let way = c.args.way.now in
    (omega (arith, half.back_depth), (near_fewer way.start way.end (run_points c.in-Some.back) (run_points c.args.run) half.back_points c.requires.near, (half.back_sound way.origin c.requires.sound, (c.requires.round, c.requires.tolerance))))

pub returns-in-Some-wall_of_run-clause-found : goal.returns-in-Some-wall_of_run-clause-found
returns-in-Some-wall_of_run-clause-found t c =
    let way = c.args.way.now in
    let whole = c.args.run in
    let front = c.in-Some.front in
    let half = c.in-Some.ensures in
    obstacle_more (run_edges front) (run_edges whole) (run_points front) (run_points whole) way.start way.end way.tolerance (contained_front (run_edges whole) (run_edges front) (run_edges c.in-Some.back) half.edges) half.front_points _ c.in-Some-wall_of_run.ensures.found

pub returns-in-None-wall_of_run-clause-found : goal.returns-in-None-wall_of_run-clause-found
returns-in-None-wall_of_run-clause-found t c =
    let way = c.args.way.now in
    let whole = c.args.run in
    let back = c.in-Some.back in
    let half = c.in-Some.ensures in
    let within = contained_back (run_edges whole) (run_edges c.in-Some.front) (run_edges back) half.edges in
    IfSome_then c.wall_of_run-in-None-wall_of_run.result c.wall_of_run-in-None-wall_of_run.ensures.found (λ wall h. obstacle_more (run_edges back) (run_edges whole) (run_points back) (run_points whole) way.start way.end way.tolerance within half.back_points wall h)

pub returns-in-None-wall_of_run-clause-none : goal.returns-in-None-wall_of_run-clause-none
returns-in-None-wall_of_run-clause-none t c =
    let way = c.args.way.now in
    let whole = c.args.run in
    let front = c.in-Some.front in
    let back = c.in-Some.back in
    let half = c.in-Some.ensures in
    let split = contained_cases (run_edges whole) (run_edges front) (run_edges back) half.edges in
    none_then c.wall_of_run-in-None-wall_of_run.result c.wall_of_run-in-None-wall_of_run.ensures.none (λ free. free_joined (run_edges whole) (run_edges front) (run_edges back) (run_points whole) (run_points front) (run_points back) way.start way.end way.tolerance split half.points c.in-None-wall_of_run.ensures.none free)
