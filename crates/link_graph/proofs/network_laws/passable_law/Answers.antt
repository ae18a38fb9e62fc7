use Rattle.link_graph.proofs.AskingUsable.{passable_usable}
use Rattle.link_graph.proofs.network_laws.passable_law.Goals as goal

pub returns : goal.returns
returns c = passable_usable
