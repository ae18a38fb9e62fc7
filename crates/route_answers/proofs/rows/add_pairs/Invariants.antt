use Rattle.std.proofs.Common.{length, take, flat_map}
use Rattle.link_graph.specs.Graphs.{network}
use Rattle.route_answers.specs.Adding.{Adds, rows_from}
use Rattle.route_answers.proofs.rows.add_pairs.Given as goal

abbrev pub invariant-loop-a : goal.invariant-loop-a
invariant-loop-a l = Adds (length (network l.graph).nodes) l.initial.rows.items l.rows.items (flat_map (rows_from l.graph l.area l.members) (take l.a-index l.members))
