-- What becomes of a change at the board becomes of the history.
use Rattle.std.proofs.Common.{refl}
use Rattle.board_copies.specs.Stamps.{entries_of}
use Rattle.board_copies.specs.Making.{shelf_of}
use Rattle.board_copies.proofs.Entering.{enters, stays, no_journal_leaves, no_journal_tells}
use Rattle.version_board.proofs.alone.Alone.make.Goals as goal

pub ready_change-requires-clause-closable : goal.ready_change-requires-clause-closable
ready_change-requires-clause-closable g c = c.version_law.ensures.closable (entries_of c.args.self.now.held.stamp) c.args.self.now.held.board c.args.self.now.held.stands

pub returns-in-Stays-clause-changes : goal.returns-in-Stays-clause-changes
returns-in-Stays-clause-changes g c =
    let shelf = shelf_of (g.F.Folders.files c.args.self.now.reader.folders) c.args.self.now.reader.base in
    let h = entries_of c.args.self.now.held.stamp in
    stays shelf c.args.self.now.held.board 1 c.args.change.now h h c.in-Stays.reply c.args.self.now.held.stands c.in-Stays.ensures.outcome refl

pub returns-in-Ok-clause-changes : goal.returns-in-Ok-clause-changes
returns-in-Ok-clause-changes g c =
    let shelf = shelf_of (g.F.Folders.files c.args.self.now.reader.folders) c.args.self.now.reader.base in
    enters shelf c.args.self.now.held.board 1 c.args.change.now (entries_of c.args.self.now.held.stamp) (entries_of c.enter.new.self.held.stamp) c.in-Made.ready c.in-Made.reply c.in-Made._files
    c.args.self.now.held.stands c.in-Made.ensures.outcome c.in-Ok.ensures.ok

pub returns-in-Stays-clause-kept : goal.returns-in-Stays-clause-kept
returns-in-Stays-clause-kept g c =
    let shelf = shelf_of (g.F.Folders.files c.args.self.now.reader.folders) c.args.self.now.reader.base in
    no_journal_leaves shelf c.args.self.now.held.board c.args.change.now c.in-Stays.reply c.in-Stays.ensures.outcome

pub returns-in-Ok-clause-kept : goal.returns-in-Ok-clause-kept
returns-in-Ok-clause-kept g c =
    no_journal_tells c.args.self.now.held.board c.args.change.now c.in-Made.ready.entry.act c.in-Made.reply c.in-Made.ensures.outcome.tells
