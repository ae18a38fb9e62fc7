use Rattle.link_graph.proofs.AskingParts.{facts_by_parts}
use Rattle.link_graph.proofs.network_laws.network_parts_law.Goals as goal

pub returns : goal.returns
returns c = facts_by_parts
