use Rattle.std.proofs.Common.{arith}
use Rattle.plane_trees.specs.Trees.{run_points}
use Rattle.plane_trees.proofs.WallLemmas.{near_first}
use Rattle.plane_trees.proofs.ring_bands.RingBands.wall_between.Goals as goal

pub octagon_of-requires : goal.octagon_of-requires
octagon_of-requires c = near_first c.args.a c.args.b c.args.a c.args.self.now.points (run_points c.in-Some.run') c.in-Some.ensures.points (omega arith) c.requires.near
