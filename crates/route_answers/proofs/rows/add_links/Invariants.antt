use Rattle.std.proofs.Common.{length, take, filter, map}
use Rattle.link_graph.specs.Graphs.{network}
use Rattle.route_answers.specs.Adding.{Adds}
use Rattle.route_answers.specs.Passing.{link_row, passes_link}
use Rattle.route_answers.proofs.rows.add_links.Given as goal

abbrev pub invariant-loop-link : goal.invariant-loop-link
invariant-loop-link l = Adds (length (network l.graph).nodes) l.initial.rows.items l.rows.items (map (link_row (network l.graph)) (filter (passes_link (network l.graph) l.profile) (take l.link-index l.links)))
