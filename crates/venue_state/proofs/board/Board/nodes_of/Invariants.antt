use Rattle.std.proofs.Common.{◌≡◌, ◌<◌, ℕ, All, Some, length, map, take}
use Rattle.route_search.specs.Nodes.{nodes, place_of}
use Rattle.venue_state.proofs.board.Board.nodes_of.Given as goal

abbrev pub invariant-loop-id : goal.invariant-loop-id
invariant-loop-id l = record {
  found : map (place_of l.self.features) (take l.id-index l.ids) ≡ map Some l.nodes;
  within : All (λ (n : ℕ). n < length (nodes l.self.features l.self.settings)) l.nodes;
}
