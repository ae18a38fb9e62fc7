use Rattle.std.proofs.Common.{arith}
use Rattle.std.specs.Arc.{arc_value}
use Rattle.journal_restore.proofs.Openings.{opening_told}
use Rattle.journal_restore.proofs.beginning.begin.Goals as goal

pub append-requires-clause-loggable : goal.append-requires-clause-loggable
append-requires-clause-loggable g c =
    record {
      worker = omega arith;
      act = c.slots_law.ensures c.args.files.now (arc_value c.args.settings.now) (arc_value c.args.venue) c.requires.seventeen c.requires.made;
    }

pub returns-in-Ok-append-clause-records : goal.returns-in-Ok-append-clause-records
returns-in-Ok-append-clause-records g c =
    opening_told c.args.files.now (arc_value c.args.settings.now) c.args.venue c.args.journal.count c.append.new.self.count (g.K.Disk.moments c.args.journal.disk)
    (g.K.Disk.moments c.append.new.self.disk) _ c.requires.made c.requires.empty c.in-Ok-append.ensures.appended c.in-Ok.ensures.opening
