use Rattle.std.proofs.Common.{refl, sym, ◌∙◌}
use Rattle.std.specs.Arc.{arc_value}
use Rattle.venue_commands.specs.ReadCommands.{service_asked}
use Rattle.venue_commands.proofs.Ending.{no_answer}
use Rattle.venue_commands.proofs.Serving.{later_as}
use Rattle.venue_program.proofs.Hosting.{service_stopped, ready_for}
use Rattle.venue_program.proofs.serve_command.serve.Goals as goal

pub returns-in-Ok-Opened-clause-ends : goal.returns-in-Ok-Opened-clause-ends
returns-in-Ok-Opened-clause-ends g c words asks =
    let reached = c.in-Ok-Opened.ensures in
    let opens = rw c.in-Ok-Opened.field-0-is at reached.told in
    let service = c.args.service in
    let venue = arc_value c.in-Ok-Opened.opening.venue in
    c.serve_opening.ensures.ends words (g.F.Folders.files c.args.folders) c.args.folders service.of.base.now service.of.folder.now service.address.now service.workers service.connections venue
    asks opens.made (ready_for c.in-Ok-Opened.opening service venue service.of.base.now c.ready_of-ready.result opens.base_is refl c.ready_of-ready.ensures.ready) reached.cause.kept

pub returns-in-Ok-Opened-clause-files : goal.returns-in-Ok-Opened-clause-files
returns-in-Ok-Opened-clause-files g c = c.serve_opening.ensures.files ∙ c.in-Ok-Opened.ensures.same

pub returns-in-Ok-Opened-clause-folders_later : goal.returns-in-Ok-Opened-clause-folders_later
returns-in-Ok-Opened-clause-folders_later g c = later_as _ _ _ _ (sym c.in-Ok-Opened.ensures.cause.kept) refl c.serve_opening.ensures.folders_later

pub returns-in-Ok-Printed-clause-ends : goal.returns-in-Ok-Printed-clause-ends
returns-in-Ok-Printed-clause-ends g c words asks =
    let reached = c.in-Ok-Printed.ensures in
    let stops = rw c.in-Ok-Printed.field-0-is at reached.told in
    let plain = rw c.in-Ok-Printed.field-0-is at reached.plain in
    c.stop.ensures.ends words (g.F.Folders.files c.args.folders) c.args.folders
    (plain, service_stopped words (g.F.Folders.files c.args.folders) c.args.service c.in-Ok-Printed.answer asks stops, reached.cause.kept)

pub returns-in-Err-clause-ends : goal.returns-in-Err-clause-ends
returns-in-Err-clause-ends g c words asks =
    let files = g.F.Folders.files c.args.folders in
    c.stop-in-Err.ensures.ends words files c.args.folders
    (no_answer words files _ (service_asked c.args.service) c.in-Err.fault asks c.in-Err.ensures.failed c.in-Err.ensures.cause)
