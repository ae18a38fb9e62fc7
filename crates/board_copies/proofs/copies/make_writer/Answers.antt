use Rattle.board_copies.proofs.Steps.{starts}
use Rattle.board_copies.proofs.copies.make_writer.Goals as goal

pub new-requires-2-clause-rule : goal.new-requires-2-clause-rule
new-requires-2-clause-rule c = starts (record { held = c.in_ok-held.held })
