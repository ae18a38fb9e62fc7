use Rattle.board_copies.proofs.Fronts.{prefix_longer}
use Rattle.board_copies.proofs.writer_side.show.Goals as goal

pub show_last-requires-clause-begins : goal.show_last-requires-clause-begins
show_last-requires-clause-begins g c = prefix_longer _ _ c.requires.longer
