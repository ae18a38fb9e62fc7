use Rattle.link_graph.specs.Graphs.{network}
use Rattle.route_search.specs.Scans.{CanPass, node_count}
use Rattle.route_search.proofs.Walked.{IsWalked}
use Rattle.route_search.proofs.node_scan.scan_stretches.Given as goal

abbrev pub invariant-loop-k : goal.invariant-loop-k
invariant-loop-k g l = IsWalked (network l.ways.graph.now) (CanPass l.ways) (node_count l.ways.graph.now) l.node l.k l.initial.steps l.steps l.initial.state l.state
