use Rattle.std.proofs.Common.{◌≡◌, ◌*◌, ◌≤◌, length, take, filter, flat_map}
use Rattle.link_graph.specs.Graphs.{network}
use Rattle.route_answers.specs.Adding.{joined_passing}
use Rattle.route_answers.specs.Passing.{passes_node}
use Rattle.route_answers.proofs.room.Room.joined_count.Given as goal

abbrev pub invariant-loop-i : goal.invariant-loop-i
invariant-loop-i l = record {
  number : l.count ≡ length (flat_map (joined_passing l.self.graph.now l.self.profile.now l.self.members.now l.self.sights.now) (filter (passes_node (network l.self.graph.now) l.self.profile.now) (take l.i l.self.members.now)));
  few : l.count ≤ l.i * 4096;
}
