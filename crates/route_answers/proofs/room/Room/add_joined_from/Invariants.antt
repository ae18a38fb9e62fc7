use Rattle.std.proofs.Common.{length, take, filter, map, ◌&&◌}
use Rattle.link_graph.specs.Areas.{joined_across}
use Rattle.link_graph.specs.Graphs.{network}
use Rattle.route_answers.specs.Adding.{Adds, pair_row}
use Rattle.route_answers.specs.Passing.{passes_node}
use Rattle.route_answers.proofs.room.Room.add_joined_from.Given as goal

abbrev pub invariant-loop-j : goal.invariant-loop-j
invariant-loop-j l =
    Adds (length (network l.self.graph.now).nodes) l.initial.rows.items l.rows.items
    (map (pair_row l.self.graph.now l.area l.a) (filter (λ b. joined_across l.self.sights.now l.self.members.now l.a b && passes_node (network l.self.graph.now) l.self.profile.now b) (take l.j l.self.members.now)))
