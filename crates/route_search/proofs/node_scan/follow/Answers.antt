use Rattle.link_graph.specs.Graphs.{network}
use Rattle.route_search.specs.Scans.{CanPass, node_count}
use Rattle.route_search.proofs.Lowered.{followed}
use Rattle.route_search.proofs.Looked.{on_ok}
use Rattle.route_search.proofs.node_scan.follow.Goals as goal

pub returns : goal.returns
returns g c = on_ok c.lower.result (λ lowered. followed (network c.args.ways.now.graph.now) (CanPass c.args.ways.now) (node_count c.args.ways.now.graph.now) c.args.state.now c.lower.new.state c.args.link.now c.has_to_wait-waits.result
    c.requires.amid (c.can_pass.ensures.0 c.if-not-can_pass.false) (c.range_law.ensures.to c.args.link.now c.requires.there) (c.range_law.ensures.cost c.args.link.now c.requires.there) c.requires.cheap lowered c.has_to_wait-waits.ensures) c.lower.ensures
