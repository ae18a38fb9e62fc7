use Rattle.std.proofs.Common.{◌∷◌}
use Rattle.std.proofs.lemmas.Option.{IfSome_then}
use Rattle.plane_exact.specs.Figure.{edges_from}
use Rattle.plane_exact.proofs.NearbyLemmas.{Contains-later}
use Rattle.plane_trees.proofs.WallLemmas.{obstacle_more}
use Rattle.plane_trees.proofs.run_walls.wall_of_chain.Goals as goal

pub returns-clause-found : goal.returns-clause-found
returns-clause-found c =
    let list = edges_from c.args.start c.args.rest.now in
    let rest = c.args.rest.now in
    IfSome_then c.wall_behind.result c.wall_behind.ensures.found (λ wall h. obstacle_more list list rest (c.args.start ∷ rest) c.args.way.now.start c.args.way.now.end c.args.way.now.tolerance (λ e k. k) (λ q k. Contains-later q c.args.start rest k) wall h)
