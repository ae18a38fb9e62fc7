use Rattle.change_journal.proofs.Recorded.{told_counted}
use Rattle.change_journal.proofs.journal.JournalLog.fault_count.Goals as goal

pub returns-clause-counted : goal.returns-clause-counted
returns-clause-counted g c = told_counted c.args.self.now.count (g.K.Disk.moments c.args.self.now.disk)
