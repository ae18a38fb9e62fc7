use Rattle.std.proofs.Common.{flat_map, refl, arith}
use Rattle.link_graph.specs.Areas.{area_links, areas, passages}
use Rattle.link_graph.specs.Graphs.{network}
use Rattle.route_answers.proofs.Numbers.{behind, between_count, all_counted, all_few}
use Rattle.route_answers.proofs.counts.row_count.Goals as goal

pub link_count-between-requires : goal.link_count-between-requires
link_count-between-requires c = λ k d within.
    let graph = c.args.graph.now in
    behind (network graph).links (flat_map (area_links graph) (areas graph)) (passages graph) c.passages.result.now k d c.areas_law.ensures c.passages.ensures within

pub overflow_add-result : goal.overflow_add-result
overflow_add-result c =
    let graph = c.args.graph.now in
    let profile = c.args.profile.now in
    let between = between_count graph profile c.passages.result.now c.link_count-between.result c.passages.ensures c.link_count-between.ensures in
    let few = all_few graph profile c.in_ok-across.across c.link_count-between.result c.in_ok-across.ensures between c.areas_law.ensures in
    let bound = c.range_law.ensures.links in
    omega (arith, few, bound)

pub returns : goal.returns
returns c =
    let graph = c.args.graph.now in
    let profile = c.args.profile.now in
    let between = between_count graph profile c.passages.result.now c.link_count-between.result c.passages.ensures c.link_count-between.ensures in
    all_counted graph profile c.in_ok-across.across c.link_count-between.result _ c.in_ok-across.ensures between c.areas_law.ensures refl
