use Rattle.std.proofs.Common.{sym, ◌∙◌}
use Rattle.venue_nodes.specs.Rows.{row_list}
use Rattle.link_graph.specs.Areas.{areas}
use Rattle.link_graph.proofs.AreaLinks.{areas_count}
use Rattle.link_graph.proofs.graph.Graph.areas.Goals as goal

pub returns : goal.returns
unfolding areas
returns c = let core = c.args.self.now.core in c.len.ensures.count ∙ sym (areas_count core core.crossings.items (row_list core.rows) c.args.self.now.sound.paired)
