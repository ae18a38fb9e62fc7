use Rattle.venue_nodes.specs.Views.{node_list}
use Rattle.venue_nodes.proofs.Items.{member_at}
use Rattle.link_graph.specs.Lengths.{length_between}
use Rattle.link_graph.proofs.MadeTrails.{passage_is}
use Rattle.link_graph.proofs.trails.Ground.passage.Goals as goal

pub length_cm-way-requires-clause-close : goal.length_cm-way-requires-clause-close
length_cm-way-requires-clause-close c =
    let list = node_list c.args.self.now.nodes.now in
    c.requires.ground.close.close c.node.result c.node-2.result
    (member_at list c.args.a c.node.result c.node.ensures)
    (member_at list c.args.b c.node-2.result c.node-2.ensures)

pub returns : goal.returns
returns c =
    let settings = c.args.self.now.settings.now in
    let list = node_list c.args.self.now.nodes.now in
    let start = c.node.result.spot in
    let finish = c.node-2.result.spot in
    let close = c.requires.ground.close.close c.node.result c.node-2.result (member_at list c.args.a c.node.result c.node.ensures) (member_at list c.args.b c.node-2.result c.node-2.ensures) in
    passage_is c.args.self.now.features.now settings c.args.trail.via c.args.trail.kind c.args.a c.args.b c.node.result c.node-2.result list c.length_cm-way.result c.extra.result
    c.requires.ground.nodes.list c.node.ensures c.node-2.ensures
    (c.length_law.ensures start finish settings.kx settings.ky c.length_cm-way.result (length_between start finish settings.kx settings.ky) c.length_cm-way.ensures.length
    (c.length_between_law.ensures.length start finish settings.kx settings.ky close settings.kx_range settings.ky_range))
    c.extra.ensures.value
