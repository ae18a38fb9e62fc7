use Rattle.link_graph.proofs.AreaLinks.{by_areas}
use Rattle.link_graph.proofs.graph.Graph.areas_law.Goals as goal

pub returns : goal.returns
returns c = by_areas c.args.self.now
