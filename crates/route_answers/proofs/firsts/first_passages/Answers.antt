use Rattle.std.proofs.Common.{flat_map}
use Rattle.link_graph.specs.Areas.{area_links, areas, passages}
use Rattle.link_graph.specs.Graphs.{network}
use Rattle.route_answers.proofs.Numbers.{behind}
use Rattle.route_answers.proofs.firsts.first_passages.Goals as goal

pub first_links-requires : goal.first_links-requires
first_links-requires c = λ k d within.
    let graph = c.args.graph.now in
    behind (network graph).links (flat_map (area_links graph) (areas graph)) (passages graph) c.passages.result.now k d c.areas_law.ensures c.passages.ensures within
