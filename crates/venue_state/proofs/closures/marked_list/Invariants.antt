use Rattle.std.proofs.Common.{◌≡◌, ◌++◌, drop}
use Rattle.route_search.specs.Graphs.{network}
use Rattle.venue_state.specs.Boards.{closed_by}
use Rattle.venue_state.proofs.closures.marked_list.Given as goal

-- what was taken and what the rest closes
abbrev pub invariant-loop-k : goal.invariant-loop-k
invariant-loop-k l = l.closed ++ closed_by (drop l.k l.marks) (drop l.k (network l.graph).closables) ≡ closed_by l.marks (network l.graph).closables
