use Rattle.std.proofs.Common.{◌≡◌, ◌++◌, length, drop}
use Rattle.venue_state.specs.Touring.{legs_along}
use Rattle.venue_state.proofs.board.Board.legs.Given as goal

abbrev pub invariant-loop-stop : goal.invariant-loop-stop
invariant-loop-stop l = l.legs ++ legs_along l.self l.table (length l.order) l.place (drop l.stop-index l.order) ≡ legs_along l.self l.table (length l.order) 0 l.order
