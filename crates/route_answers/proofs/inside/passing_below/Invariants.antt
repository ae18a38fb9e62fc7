use Rattle.std.proofs.Common.{◌≡◌, ◌≤◌, ℕ, length, take, filter}
use Rattle.std.specs.Prelude.{nat_lt, ◌&&◌}
use Rattle.link_graph.specs.Graphs.{network}
use Rattle.route_answers.specs.Passing.{passes_node}
use Rattle.route_answers.proofs.inside.passing_below.Given as goal

abbrev pub invariant-loop-m : goal.invariant-loop-m
invariant-loop-m l = record {
  number : l.count ≡ length (filter (λ (m : ℕ). nat_lt m l.n && passes_node (network l.graph) l.profile m) (take l.m-index l.members));
  few : l.count ≤ l.m-index;
}
