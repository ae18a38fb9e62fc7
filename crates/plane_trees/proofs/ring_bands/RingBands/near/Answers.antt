use Rattle.std.proofs.Common.{arith}
use Rattle.plane_exact.proofs.NearbyLemmas.{first_close}
use Rattle.plane_trees.specs.Trees.{run_points}
use Rattle.plane_trees.proofs.ring_bands.RingBands.near.Goals as goal

pub of-requires : goal.of-requires
of-requires c = first_close c.args.p c.args.p c.args.self.now.points (run_points c.in-Some.run') c.in-Some.ensures.points (omega arith) c.requires.close
