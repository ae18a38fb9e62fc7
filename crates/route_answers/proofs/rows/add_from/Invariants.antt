use Rattle.std.proofs.Common.{length, take, filter, map}
use Rattle.link_graph.specs.Graphs.{network}
use Rattle.route_answers.specs.Passing.{other_than}
use Rattle.route_answers.specs.Adding.{Adds, pair_row}
use Rattle.route_answers.proofs.rows.add_from.Given as goal

abbrev pub invariant-loop-b : goal.invariant-loop-b
invariant-loop-b l = Adds (length (network l.graph).nodes) l.initial.rows.items l.rows.items (map (pair_row l.graph l.area l.a) (filter (other_than l.a) (take l.b-index l.members)))
