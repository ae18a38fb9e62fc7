use Rattle.std.proofs.Common.{◌∙◌}
use Rattle.board_copies.specs.Stamps.{entries_of}
use Rattle.version_board.proofs.alone.AloneAsks.number.Goals as goal

pub returns-clause-number : goal.returns-clause-number
returns-clause-number g c = c.number.ensures ∙ c.number_law.ensures (entries_of c.args.self.now.held.stamp) c.args.self.now.held.board c.args.self.now.held.stands

pub returns-clause-legal : goal.returns-clause-legal
returns-clause-legal g c = c.args.self.now.held.stands.legal
