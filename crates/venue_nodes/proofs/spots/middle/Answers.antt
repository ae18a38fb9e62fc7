use Rattle.venue_nodes.proofs.Boxes.{middle_kept}
use Rattle.venue_nodes.proofs.spots.middle.Goals as goal

pub returns : goal.returns
returns c = middle_kept c.args.a c.args.b c.requires.first c.requires.second
