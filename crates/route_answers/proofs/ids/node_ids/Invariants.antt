use Rattle.std.proofs.Common.{◌≡◌, take, map}
use Rattle.std.specs.List.{AllByRecursion}
use Rattle.venue_types.specs.declared.link.Node.{Node}
use Rattle.link_graph.specs.Graphs.{network}
use Rattle.route_certificate.specs.Forms.{FitsId}
use Rattle.route_answers.proofs.ids.node_ids.Given as goal

abbrev pub invariant-loop-n : goal.invariant-loop-n
invariant-loop-n l = record {
  ids : l.ids.items ≡ take l.n (map (λ (node : Node). node.id) (network l.graph).nodes);
  fits : AllByRecursion FitsId l.ids.items;
}
