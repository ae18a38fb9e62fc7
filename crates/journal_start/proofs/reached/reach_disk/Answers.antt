use Rattle.std.proofs.Common.{◌≡◌, ℕ, Some, None, subst}
use Rattle.std.specs.Arc.{arc_value}
use Rattle.journal_start.specs.Starts.{CountsDisk, HasBegun, IsFolderStop, begun}
use Rattle.journal_start.proofs.Reaching.{err_maps, folder_stops, journal_stops, none_restored, ok_maps}
use Rattle.journal_start.proofs.reached.reach_disk.Goals as goal

pub returns-in-None-clause-started : goal.returns-in-None-clause-started
returns-in-None-clause-started g c =
    let found = c.in-Ok.field-0 in
    let read = found.journal in
    let files = g.F.Folders.files c.args.folders.now in
    let settings = arc_value c.args.settings in
    let none : found.resumed ≡ None = cc in
    let is = none_restored settings (g.K.Disk.moments c.args.disk) (g.K.Disk.moments read.disk) read.count found.resumed none c.in-Ok.ensures.ok in
    ok_maps (λ start. HasBegun files c.args.of.base.now c.args.of.folder.now settings (g.K.Disk.moments read.disk) start.kept.journal.count start.kept.resumed (g.K.Disk.moments start.kept.journal.disk))
    _ c.begun_of.result (λ start has. begun (g.K.Disk.moments read.disk) is has) c.begun_of.ensures.begun

pub returns-in-None-clause-stopped : goal.returns-in-None-clause-stopped
returns-in-None-clause-stopped g c =
    let found = c.in-Ok.field-0 in
    let read = found.journal in
    let files = g.F.Folders.files c.args.folders.now in
    let settings = arc_value c.args.settings in
    let none : found.resumed ≡ None = cc in
    let is = none_restored settings (g.K.Disk.moments c.args.disk) (g.K.Disk.moments read.disk) read.count found.resumed none c.in-Ok.ensures.ok in
    err_maps (λ stop. IsFolderStop files c.args.of.base.now c.args.of.folder.now settings stop.why) _ c.begun_of.result
    (λ stop why. folder_stops files c.args.of.base.now c.args.of.folder.now settings (g.K.Disk.moments c.args.disk) (g.K.Disk.moments read.disk) stop.why is why) c.begun_of.ensures.stopped

pub returns-in-None-clause-back : goal.returns-in-None-clause-back
returns-in-None-clause-back g c =
    err_maps (λ stop. (back : g.row.K.Denot) × (stop.disk ≡ Some back) × CountsDisk (g.K.Disk.faults c.in-Ok.field-0.journal.disk) (g.K.Disk.faults back) stop.why) _ c.begun_of.result
    (λ stop back. (back.0, back.1, subst (λ (n : ℕ). CountsDisk n (g.K.Disk.faults back.0) stop.why) c.in-Ok.ensures.kept back.2)) c.begun_of.ensures.back

pub returns-in-Err-clause-stopped : goal.returns-in-Err-clause-stopped
returns-in-Err-clause-stopped g c =
    journal_stops (g.F.Folders.files c.args.folders.now) c.args.of.base.now c.args.of.folder.now (arc_value c.args.settings) (g.K.Disk.moments c.args.disk) c.in-Err.field-0.fault
    c.of_restore.result c.in-Err.ensures.cause c.of_restore.ensures
