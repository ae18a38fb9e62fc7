use Rattle.venue_types.proofs.Items.{member_at}
use Rattle.link_graph.specs.Graphs.{network}
use Rattle.route_search.specs.Scans.{CanPass, node_count}
use Rattle.route_search.proofs.Detours.{passed_over}
use Rattle.route_search.proofs.Walked.{markable}
use Rattle.route_search.proofs.node_scan.scan_stretch.Goals as goal

pub is_passed_over-requires-clause-way : goal.is_passed_over-requires-clause-way
is_passed_over-requires-clause-way g c = markable (network c.args.ways.now.graph.now) c.args.at.now (c.stretch_law.ensures c.args.at.now.node c.requires.stretch.node) c.requires.stretch c.range_law.ensures.via

pub returns-then-is_passed_over-clause-scanned : goal.returns-then-is_passed_over-clause-scanned
returns-then-is_passed_over-clause-scanned g c =
    passed_over (network c.args.ways.now.graph.now) (CanPass c.args.ways.now) (node_count c.args.ways.now.graph.now) c.args.at.now.node c.args.at.now.stretch c.args.state.now
    (c.stretch_law.ensures c.args.at.now.node c.requires.stretch.node) (member_at _ c.args.at.now.k c.args.at.now.stretch c.requires.stretch.here) c.requires.amid
    (c.is_passed_over.ensures c.if-is_passed_over.true)
