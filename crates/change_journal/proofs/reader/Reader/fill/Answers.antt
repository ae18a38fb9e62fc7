use Rattle.change_journal.proofs.Looking.{stays_either, looks_of}
use Rattle.change_journal.proofs.reader.Reader.fill.Goals as goal

pub returns-clause-looks : goal.returns-clause-looks
returns-clause-looks g c =
    let old = g.K.Disk.moments c.self.inside.disk in
    let new = g.K.Disk.moments c.read.new.self in
    rw (← c.self.view_is) (looks_of old new (stays_either old new c.read.result c.read.ensures.ok c.read.ensures.err))
