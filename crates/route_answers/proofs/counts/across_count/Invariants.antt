use Rattle.std.proofs.Common.{◌≡◌, length, take, flat_map}
use Rattle.link_graph.specs.Areas.{area_links, areas}
use Rattle.link_graph.specs.Graphs.{network}
use Rattle.route_answers.specs.Passing.{rows_of}
use Rattle.route_answers.proofs.counts.across_count.Given as goal

abbrev pub invariant-loop-w : goal.invariant-loop-w
invariant-loop-w l = l.count ≡ length (rows_of (network l.graph) l.profile (flat_map (area_links l.graph) (take l.w (areas l.graph))))
