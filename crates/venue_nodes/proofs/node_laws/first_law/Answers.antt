use Rattle.venue_nodes.proofs.CornerRows.{first_is_place}
use Rattle.venue_nodes.proofs.node_laws.first_law.Goals as goal

pub returns : goal.returns
returns c = first_is_place
