use Rattle.std.proofs.Common.{take, map}
use Rattle.link_graph.specs.Graphs.{network}
use Rattle.route_answers.specs.Passing.{link_row, rows_of}
use Rattle.route_answers.specs.Places.{AreFirstPlaces}
use Rattle.route_answers.proofs.places.row_places.Given as goal

abbrev pub invariant-loop-link : goal.invariant-loop-link
invariant-loop-link l = AreFirstPlaces (rows_of (network l.graph) l.profile (network l.graph).links) (map (link_row (network l.graph)) (take l.link-index l.links)) l.places.items
