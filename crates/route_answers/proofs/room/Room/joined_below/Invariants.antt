use Rattle.std.proofs.Common.{◌≡◌, ◌≤◌, ◌&&◌, ℕ, Some, length, take, filter}
use Rattle.std.specs.Prelude.{slice_get}
use Rattle.link_graph.specs.Areas.{joined_across}
use Rattle.link_graph.specs.Graphs.{network}
use Rattle.route_answers.specs.Passing.{passes_node}
use Rattle.route_answers.proofs.room.Room.joined_below.Given as goal

abbrev pub invariant-loop-j : goal.invariant-loop-j
invariant-loop-j l = record {
  number : (a : ℕ) → slice_get l.self.members.now l.i ≡ Some a → l.count ≡ length (filter (λ b. joined_across l.self.sights.now l.self.members.now a b && passes_node (network l.self.graph.now) l.self.profile.now b) (take l.j l.self.members.now));
  few : l.count ≤ l.j;
}
