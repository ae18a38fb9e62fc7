use Rattle.venue_state.proofs.board.Board.row.Given as goal

abbrev pub ghosts-searched : goal.ghosts-searched
ghosts-searched a = record { name = a.blank.name; parts = a.blank.parts }
