use Rattle.venue_nodes.proofs.Spread.{nodes_close}
use Rattle.venue_nodes.proofs.node_laws.spot_law.Goals as goal

pub returns : goal.returns
returns c = nodes_close
