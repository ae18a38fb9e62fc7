use Rattle.std.proofs.Common.{refl}
use Rattle.board_copies.specs.Stamps.{entries_of}
use Rattle.board_copies.specs.Making.{shelf_of}
use Rattle.version_board.proofs.Serving.{itself, made_more, later_faults, risen_faults, same_shelf}
use Rattle.version_board.proofs.alone.AloneHall.change.Goals as goal

pub returns-clause-reply : goal.returns-clause-reply
returns-clause-reply g c = (entries_of c.args.self.now.held.stamp, itself (entries_of c.args.self.now.held.stamp), c.make.ensures.changes)

pub returns-clause-grows : goal.returns-clause-grows
returns-clause-grows g c =
    let shelf = shelf_of (g.F.Folders.files c.args.self.now.reader.folders) c.args.self.now.reader.base in
    c.change_law.ensures.grows shelf 1 c.args.change.now (entries_of c.args.self.now.held.stamp) (entries_of c.make.new.self.held.stamp) c.make.result c.make.ensures.changes

pub returns-clause-legal : goal.returns-clause-legal
returns-clause-legal g c =
    let shelf = shelf_of (g.F.Folders.files c.args.self.now.reader.folders) c.args.self.now.reader.base in
    c.change_law.ensures.legal shelf 1 c.args.change.now (entries_of c.args.self.now.held.stamp) (entries_of c.make.new.self.held.stamp) c.make.result c.make.ensures.changes c.args.self.now.held.stands.legal

pub returns-clause-made : goal.returns-clause-made
returns-clause-made g c =
    let shelf = shelf_of (g.F.Folders.files c.args.self.now.reader.folders) c.args.self.now.reader.base in
    made_more (entries_of c.args.self.now.held.stamp) (entries_of c.make.new.self.held.stamp) c.args.self.now.held.board c.make.result c.args.self.now.held.stands
    (c.change_law.ensures.length shelf 1 c.args.change.now (entries_of c.args.self.now.held.stamp) (entries_of c.make.new.self.held.stamp) c.make.result c.make.ensures.changes)

pub returns-clause-faults : goal.returns-clause-faults
returns-clause-faults g c = later_faults (g.F.Folders.faults c.args.self.now.reader.folders) (g.F.Folders.faults c.make.new.self.reader.folders) c.make.result c.make.ensures.counts

pub returns-clause-fault : goal.returns-clause-fault
returns-clause-fault g c = risen_faults (g.F.Folders.faults c.args.self.now.reader.folders) (g.F.Folders.faults c.make.new.self.reader.folders) c.make.result c.make.ensures.counts c.make.ensures.kept

pub returns-clause-same : goal.returns-clause-same
returns-clause-same g c = record {
  worker = refl;
  parts = refl;
  files = same_shelf _ _ _ _ c.make.ensures.same c.make.ensures.base;
}
