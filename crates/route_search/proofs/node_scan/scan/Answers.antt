use Rattle.std.proofs.Common.{◌≡◌, true, false}
use Rattle.link_graph.specs.Graphs.{network}
use Rattle.route_search.specs.Scans.{CanPass, node_count, out_count_of}
use Rattle.route_search.proofs.Covers.{out_from}
use Rattle.route_search.proofs.Scanned.{passed}
use Rattle.route_search.proofs.node_scan.scan.Goals as goal

pub returns-then-not-can_leave-clause-scanned : goal.returns-then-not-can_leave-clause-scanned
returns-then-not-can_leave-clause-scanned g c =
    passed (network c.args.ways.now.graph.now) (CanPass c.args.ways.now) (node_count c.args.ways.now.graph.now) c.args.node 0 (out_count_of c.args.ways.now.graph.now c.args.node) c.args.state.now c.requires.amid
    (λ place l low high here is. (let can : c.can_leave.result ≡ true = c.can_leave.ensures l is (out_from (network c.args.ways.now.graph.now) c.args.node place l here) in
    let not_so : c.can_leave.result ≡ false = c.if-not-can_leave.true in
    let never : true ≡ false = cc in absurd cc))
