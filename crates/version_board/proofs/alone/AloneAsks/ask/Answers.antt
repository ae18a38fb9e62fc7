use Rattle.board_copies.specs.Stamps.{entries_of}
use Rattle.version_board.proofs.Serving.{itself}
use Rattle.version_board.proofs.alone.AloneAsks.ask.Goals as goal

pub returns-clause-reply : goal.returns-clause-reply
returns-clause-reply g c = (c.args.self.now.held.board, c.args.self.now.held.stands, c.ask.ensures)

pub returns-clause-grows : goal.returns-clause-grows
returns-clause-grows g c = itself (entries_of c.args.self.now.held.stamp)
