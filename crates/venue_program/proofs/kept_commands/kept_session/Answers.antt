use Rattle.std.proofs.Common.{◌≡◌, ◌≤◌, ◌∙◌, option_map, refl, sym, subst, ap, inl, inr}
use Rattle.std.specs.Prelude.{IfNone, IfSome}
use Rattle.std.specs.Arc.{arc_value}
use Rattle.journal_start.specs.Stamps.{entries_of}
use Rattle.venue_service.specs.Making.{shelf_of}
use Rattle.venue_commands.specs.FaultOrder.{FailsInFolder}
use Rattle.journal_start.specs.Starts.{CountsDisk, CountsFolders, IsAskedBy, IsStopped}
use Rattle.venue_program.specs.Disks.{disk_run}
use Rattle.venue_program.specs.Kept.{asks_session}
use Rattle.venue_program.proofs.KeptEnding.{asked_maps, back_maps, later_on, none_maps, seat_as, some_maps, stop_maps, there}
use Rattle.venue_program.proofs.kept_commands.kept_session.Goals as goal

pub returns-in-Ok-clause-ends : goal.returns-in-Ok-clause-ends
returns-in-Ok-clause-ends g c words asks =
    let D = g.K.Disk.Disk in
    let files = g.F.Folders.files c.args.folders in
    let base = c.args.of.of.base.now in
    let start = c.in-Ok.start in
    let reached = c.in-Ok.ensures in
    let served = c.serve_session in
    let back = there D _ served.result.disk served.ensures.back served.ensures.ends in
    let shelf = ap (λ f. shelf_of f start.base) reached.same ∙ ap (λ b. shelf_of files b) reached.base in
    inr (inl (record {
      base = base;
      folder = c.args.of.of.folder.now;
      journal = c.args.of.journal.now;
      asks = asks;
      settings = arc_value start.settings;
      entries = entries_of start.kept.resumed.held.stamp;
      start = (record {
        settings_are = reached.settings;
        opened = reached.started.0;
        opens = reached.started.1;
        asked_then = g.F.Folders.asked c.reach_journal.new.folders;
        count = start.kept.journal.count;
        resumed = start.kept.resumed;
        now = g.K.Disk.Disk.moments start.kept.journal.disk;
        started = reached.started.2;
        entries_are = refl;
      });
      disk = disk_run D back.0;
      back = back.1;
      count = back.2.0;
      ends = seat_as _ _ _ _ _ _ _ _ _ shelf back.2.1;
      held = back.2.2;
      folders = later_on _ _ _ reached.counted served.ensures.folders_later;
      asked = reached.asked;
      disks_kept = reached.disks_sound;
      unasked = (record {
        accepted = ap g.D.Doors.accepted served.ensures.doors;
        binds = ap g.D.Doors.binds served.ensures.doors;
        bound = ap g.D.Doors.bound served.ensures.doors;
        faults = ap g.D.Doors.faults served.ensures.doors;
      });
    }))

pub returns-in-Err-clause-ends : goal.returns-in-Err-clause-ends
returns-in-Err-clause-ends g c words asks =
    let D = g.K.Disk.Disk in
    let files = g.F.Folders.files c.args.folders in
    let held = g.K.Disks.files c.args.disks.now in
    let base = c.args.of.of.base.now in
    let folder = c.args.of.of.folder.now in
    let journal = c.args.of.journal.now in
    let stop = c.in-Err.stopped in
    let reached = c.in-Err.ensures in
    let told = c.stop.ensures in
    let asked = reached.asked in
    inl (record {
      base = base;
      folder = folder;
      journal = journal;
      asks = asks_session asks;
      cause = stop.why;
      stops = subst (λ d. IsStopped files held base folder journal (option_map (disk_run D) d) stop.why) (sym told.disk) (stop_maps D files held base folder journal stop.disk stop.why reached.stopped);
      tells = told.told;
      folders = subst (λ f. CountsFolders (g.F.Folders.faults c.args.folders) (g.F.Folders.faults f) stop.why) (sym told.folders) reached.count;
      fails = λ is. subst (λ f. FailsInFolder files (g.F.Folders.asked c.args.folders) (g.F.Folders.asked f) base folder) (sym told.folders) (reached.failed is);
      back = subst (λ d. IfSome (option_map (disk_run D) d) (λ it. CountsDisk 0 it.faults stop.why)) (sym told.disk) (back_maps D stop.disk stop.why reached.back);
      unopened = subst (λ d. IfNone (option_map (disk_run D) d) (CountsDisk (g.K.Disks.faults c.args.disks.now) (g.K.Disks.faults c.reach_journal.new.disks) stop.why)) (sym told.disk)
          (none_maps D _ stop.disk reached.disks);
      disks_kept = subst (λ d. IfSome (option_map (disk_run D) d) (λ _. g.K.Disks.faults c.reach_journal.new.disks ≡ g.K.Disks.faults c.args.disks.now)) (sym told.disk)
          (some_maps D _ stop.disk reached.disks_kept);
      asked = subst (λ d. IsAskedBy base journal (g.K.Disks.opens c.args.disks.now) (g.K.Disks.opens c.reach_journal.new.disks) (g.K.Disks.opened c.args.disks.now)
          (g.K.Disks.opened c.reach_journal.new.disks) (option_map (disk_run D) d) stop.why) (sym told.disk) (asked_maps D base journal _ _ _ _ stop.disk stop.why asked);
      unread = told.left;
      unasked = (record {
        accepted = ap g.D.Doors.accepted told.doors;
        binds = ap g.D.Doors.binds told.doors;
        bound = ap g.D.Doors.bound told.doors;
        faults = ap g.D.Doors.faults told.doors;
      });
    })

pub returns-in-Err-clause-folders_later : goal.returns-in-Err-clause-folders_later
returns-in-Err-clause-folders_later g c =
    subst (λ f. g.F.Folders.faults c.args.folders ≤ g.F.Folders.faults f) (sym c.stop.ensures.folders) c.in-Err.ensures.folders_later
