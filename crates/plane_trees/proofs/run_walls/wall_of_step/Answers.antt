use Rattle.std.proofs.Common.{[], ◌∷◌, refl, arith}
use Rattle.plane_trees.proofs.WallLemmas.{near_point}
use Rattle.plane_trees.proofs.run_walls.wall_of_step.Goals as goal

pub end_stops-requires-clause-near : goal.end_stops-requires-clause-near
end_stops-requires-clause-near c = near_point c.args.way.now.start c.args.way.now.end c.args.to.point (c.args.from.point ∷ c.args.to.point ∷ []) (1, omega arith, refl) c.requires.near
