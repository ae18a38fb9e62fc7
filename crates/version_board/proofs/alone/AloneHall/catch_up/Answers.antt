use Rattle.board_copies.specs.Stamps.{entries_of}
use Rattle.version_board.proofs.Serving.{itself}
use Rattle.version_board.proofs.alone.AloneHall.catch_up.Goals as goal

pub returns-clause-grows : goal.returns-clause-grows
returns-clause-grows g c = itself (entries_of c.args.self.now.held.stamp)

pub returns-clause-legal : goal.returns-clause-legal
returns-clause-legal g c = c.args.self.now.held.stands.legal
