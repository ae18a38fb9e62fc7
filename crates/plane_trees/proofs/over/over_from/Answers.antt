use Rattle.plane_exact.specs.Figure.{ring_points}
use Rattle.plane_exact.proofs.NearbyLemmas.{AllNearby-origin}
use Rattle.plane_trees.proofs.GroveLemmas.{whole_grove}
use Rattle.plane_trees.proofs.over.over_from.Goals as goal

pub add_grove-requires : goal.add_grove-requires
add_grove-requires c = AllNearby-origin c.args.origin (ring_points c.args.rings.now) c.requires.origin c.requires.close
