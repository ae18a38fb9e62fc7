use Rattle.std.proofs.Common.{◌≡◌, List, [], ◌∷◌, false}
use Rattle.std.specs.Arc.{arc_value}
use Rattle.venue_ports.specs.Disks.{OpensDisk}
use Rattle.venue_ports.specs.Moments.{Moment}
use Rattle.venue_ports.specs.declared.folders.ReadFault.TheVariants.{Failed}
use Rattle.venue_types.specs.FolderFiles.{all_files}
use Rattle.venue_folder.specs.AskedFolders.{AskedUntil}
use Rattle.venue_folder.specs.Shelves.{folder_path}
use Rattle.venue_commands.specs.Checked.{settings_name}
use Rattle.venue_commands.specs.FaultOrder.{read_at}
use Rattle.venue_commands.proofs.Failing.{in_folder}
use Rattle.journal_start.specs.Starts.{IsStarted, IsStoppedUnder}
use Rattle.journal_start.specs.declared.stop.Why.TheVariants as why
use Rattle.journal_start.proofs.Reaching.{err_maps, ok_joins, settings_read, started_under, stopped_under}
use Rattle.journal_start.proofs.reached.reach_journal.Goals as goal

pub returns-in-Ok-Ok-clause-started : goal.returns-in-Ok-Ok-clause-started
returns-in-Ok-Ok-clause-started g c =
    let base = c.args.of.of.base.now in
    let folder = c.args.of.of.folder.now in
    let files = g.F.Folders.files c.args.folders.now in
    let mid = g.F.Folders.files c.settings_of.new.folders in
    let settings = c.in-Ok-Ok.settings in
    let between = g.F.Folders.asked c.settings_of.new.folders in
    let now = g.F.Folders.asked c.reach_opened.new.folders in
    ok_joins (λ start. arc_value start.settings ≡ settings)
    (λ start. (opened : List Moment) × OpensDisk (g.K.Disks.files c.args.disks.now) base c.args.of.journal.now opened
    × IsStarted mid base folder settings opened (now ≡ between) start.kept.journal.count start.kept.resumed (g.K.Disk.Disk.moments start.kept.journal.disk)) _ c.reach_opened.result
    (λ start own started. (
      started.0,
      started.1,
      started_under files mid base folder settings (arc_value start.settings) started.0 (read_at base settings_name false ∷ []) (g.F.Folders.asked c.args.folders.now) between now
          start.kept.journal.count start.kept.resumed (g.K.Disk.Disk.moments start.kept.journal.disk) c.in-Ok-Ok.ensures.same own c.in-Ok-Ok.ensures.asked started.2,
    ))
    c.reach_opened.ensures.settings c.reach_opened.ensures.started

pub returns-in-Ok-Ok-clause-stopped : goal.returns-in-Ok-Ok-clause-stopped
returns-in-Ok-Ok-clause-stopped g c =
    let base = c.args.of.of.base.now in
    let folder = c.args.of.of.folder.now in
    let files = g.F.Folders.files c.args.folders.now in
    let mid = g.F.Folders.files c.settings_of.new.folders in
    let held = g.K.Disks.files c.args.disks.now in
    let are = settings_read files base c.in-Ok-Ok.field-0 c.in-Ok-Ok.settings c.in-Ok-Ok.ensures.told c.in-Ok-Ok.field-0-is in
    err_maps (λ stop. IsStoppedUnder mid held base folder c.args.of.journal.now c.in-Ok-Ok.settings stop.disk stop.why) _ c.reach_opened.result
    (λ stop under. stopped_under files mid held base folder c.args.of.journal.now c.in-Ok-Ok.settings stop.disk stop.why c.in-Ok-Ok.ensures.same are under) c.reach_opened.ensures.stopped

pub returns-in-Ok-Ok-clause-failed : goal.returns-in-Ok-Ok-clause-failed
returns-in-Ok-Ok-clause-failed g c =
    let base = c.args.of.of.base.now in
    let folder = c.args.of.of.folder.now in
    let between = g.F.Folders.asked c.settings_of.new.folders in
    let now = g.F.Folders.asked c.reach_opened.new.folders in
    err_maps (λ stop. stop.why ≡ why.FolderFault → AskedUntil (folder_path base folder) all_files between now Failed) _ c.reach_opened.result
    (λ stop until is. in_folder (g.F.Folders.files c.args.folders.now) base folder c.in-Ok-Ok.field-0 c.in-Ok-Ok.settings (g.F.Folders.asked c.args.folders.now) between now
    c.in-Ok-Ok.ensures.told c.in-Ok-Ok.field-0-is c.in-Ok-Ok.ensures.asked (until is)) c.reach_opened.ensures.failed
