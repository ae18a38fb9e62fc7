use Rattle.std.proofs.Common.{◌≡◌, map, take}
use Rattle.venue_history.specs.Ways.{name_of}
use Rattle.venue_state.proofs.board.Board.names.Given as goal

abbrev pub invariant-loop-n : goal.invariant-loop-n
invariant-loop-n l = l.names.items ≡ map (name_of l.self) (take l.n-index l.nodes)
