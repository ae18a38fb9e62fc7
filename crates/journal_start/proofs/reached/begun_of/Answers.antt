use Rattle.std.proofs.Common.{◌≡◌, ap, subst}
use Rattle.std.specs.Arc.{arc_value}
use Rattle.venue_types.specs.declared.files.Files.{Files}
use Rattle.venue_types.specs.declared.settings.Settings.{Settings}
use Rattle.venue_folder.specs.Shelves.{folder_path, folder_files}
use Rattle.venue_session.specs.Openings.{opening_history}
use Rattle.venue_commands.specs.Openings.{IsOpenedUnder}
use Rattle.venue_commands.specs.declared.reached.Reached.TheVariants as reached
use Rattle.board_copies.specs.Stamps.{entries_of}
use Rattle.journal_restore.specs.Beginnings.{IsBegun}
use Rattle.journal_start.proofs.Reaching.{ok_joins, some_maps}
use Rattle.journal_start.proofs.reached.begun_of.Goals as goal

pub returns-in-Ok-Opened-clause-begun : goal.returns-in-Ok-Opened-clause-begun
returns-in-Ok-Opened-clause-begun g c =
    let opening = c.in-Ok-Opened.opening in
    let files = g.F.Folders.files c.args.folders.now in
    let under = rw c.in-Ok-Opened.field-0-is at c.in-Ok-Opened.ensures.told in
    let told = subst (λ (s : Settings). IsOpenedUnder files c.args.of.base.now c.args.of.folder.now s (reached.Opened opening)) c.deref.ensures under in
    ok_joins (λ start. entries_of start.kept.resumed.held.stamp ≡ opening_history opening.venue)
    (λ start. IsBegun opening.files.slots (g.K.Disk.moments c.args.journal.disk) start.kept.journal.count (g.K.Disk.moments start.kept.journal.disk)) _ c.begun.result
    (λ start history begun. record {
      slots = opening.files.slots;
      venue = opening.venue;
      made = told.1;
      slots_are = some_maps _ _ (g.F.Folders.files c.args.folders.now) (λ fs same. ap (λ (f : Files). f.slots) same) told.2;
      history = history;
      begun = begun;
    }) c.begun.ensures.history c.begun.ensures.begun

pub returns-in-Ok-Printed-clause-stopped : goal.returns-in-Ok-Printed-clause-stopped
returns-in-Ok-Printed-clause-stopped g c =
    let files = g.F.Folders.files c.args.folders.now in
    let under = rw c.in-Ok-Printed.field-0-is at c.in-Ok-Printed.ensures.told in
    subst (λ (s : Settings). IsOpenedUnder files c.args.of.base.now c.args.of.folder.now s (reached.Printed c.in-Ok-Printed.answer)) c.deref.ensures under
