-- The disk that a journal hands back.
use Rattle.std.proofs.Common.{subst}
use Rattle.change_journal.specs.Told.{recorded, HoldsRecords}
use Rattle.change_journal.proofs.Holding.{ready_holds}
use Rattle.change_journal.proofs.Runs.{now_maps}
use Rattle.change_journal.proofs.journal.Journal.into_disk.Goals as goal

pub returns-clause-held : goal.returns-clause-held
returns-clause-held g c =
    let f = c.self.inside in
    let moments = g.K.Disk.moments f.disk in
    let held : HoldsRecords f.count moments = now_maps moments (λ m s. ready_holds (recorded f.count moments) f.gate f.is_shut m s) c.self.invariant.ready in
    subst (λ journal. HoldsRecords journal.count moments) c.self.view_is held
