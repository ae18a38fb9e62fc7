use Rattle.std.proofs.Common.{length, take, filter, flat_map}
use Rattle.link_graph.specs.Graphs.{network}
use Rattle.route_answers.specs.Adding.{Adds, rows_joined_to}
use Rattle.route_answers.specs.Passing.{passes_node}
use Rattle.route_answers.proofs.room.Room.add_joined.Given as goal

abbrev pub invariant-loop-i : goal.invariant-loop-i
invariant-loop-i l =
    Adds (length (network l.self.graph.now).nodes) l.initial.rows.items l.rows.items
    (flat_map (rows_joined_to l.self.graph.now l.self.profile.now l.area l.self.members.now l.self.sights.now) (filter (passes_node (network l.self.graph.now) l.self.profile.now) (take l.i l.self.members.now)))
