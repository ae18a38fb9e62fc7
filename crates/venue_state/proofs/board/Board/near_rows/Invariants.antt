use Rattle.std.proofs.Common.{◌≡◌, map, take}
use Rattle.venue_state.specs.Nearing.{told_row}
use Rattle.venue_state.proofs.board.Board.near_rows.Given as goal

abbrev pub invariant-loop-row : goal.invariant-loop-row
invariant-loop-row l = l.told ≡ map (told_row l.self) (take l.row-index l.rows)
