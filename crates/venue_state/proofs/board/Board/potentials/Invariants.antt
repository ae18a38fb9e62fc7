use Rattle.std.proofs.Common.{◌≡◌, map, take}
use Rattle.venue_history.specs.Ways.{mark_of}
use Rattle.venue_state.proofs.board.Board.potentials.Given as goal

abbrev pub invariant-loop-p : goal.invariant-loop-p
invariant-loop-p l = l.marks.items ≡ map (mark_of l.self) (take l.p-index l.listed)
