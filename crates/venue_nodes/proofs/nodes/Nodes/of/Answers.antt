use Rattle.venue_nodes.proofs.Placeable.{placeable}
use Rattle.venue_nodes.proofs.nodes.Nodes.of.Goals as goal

pub placed-requires : goal.placed-requires
placed-requires c = placeable c.args.features.now c.requires.sound c.requires.close
