use Rattle.std.proofs.Common.{◌+◌, ◌-◌}
use Rattle.link_graph.specs.Graphs.{network}
use Rattle.route_search.specs.Scans.{CanPass, node_count}
use Rattle.route_search.proofs.Along.{IsAlong}
use Rattle.route_search.proofs.node_scan.look_along.Given as goal

abbrev pub invariant-links : goal.invariant-links
invariant-links g l = IsAlong (network l.ways.graph.now) (CanPass l.ways) (node_count l.ways.graph.now) l.at l.place l.initial.steps l.steps l.initial.state l.state

abbrev pub decreases-links : goal.decreases-links
decreases-links g l = l.at.stretch.first + l.at.stretch.count - l.place
