use Rattle.std.proofs.Common.{None, refl, sym, ◌∙◌}
use Rattle.venue_commands.specs.Commands.{Session}
use Rattle.venue_commands.proofs.Ending.{no_answer}
use Rattle.venue_commands.proofs.Openings.{session_printed}
use Rattle.venue_commands.proofs.Serving.{later_as}
use Rattle.venue_commands.proofs.session_command.session.Goals as goal

pub returns-in-Ok-Opened-clause-ends : goal.returns-in-Ok-Opened-clause-ends
returns-in-Ok-Opened-clause-ends g c words asks =
    let reached = c.in-Ok-Opened.ensures in
    let opens = rw c.in-Ok-Opened.field-0-is at reached.told in
    c.serve_console.ensures.ends words (g.F.Folders.files c.args.folders) c.args.folders
    (record { base = c.args.of.base.now; folder = c.args.of.folder.now; asks = asks; opens = opens }) reached.same reached.cause.kept

pub returns-in-Ok-Opened-clause-files : goal.returns-in-Ok-Opened-clause-files
returns-in-Ok-Opened-clause-files g c = c.serve_console.ensures.files ∙ c.in-Ok-Opened.ensures.same

pub returns-in-Ok-Opened-clause-folders_later : goal.returns-in-Ok-Opened-clause-folders_later
returns-in-Ok-Opened-clause-folders_later g c = later_as _ _ _ _ (sym c.in-Ok-Opened.ensures.cause.kept) refl c.serve_console.ensures.folders_later

pub returns-in-Ok-Printed-clause-ends : goal.returns-in-Ok-Printed-clause-ends
returns-in-Ok-Printed-clause-ends g c words asks =
    let reached = c.in-Ok-Printed.ensures in
    let stops = rw c.in-Ok-Printed.field-0-is at reached.told in
    let plain = rw c.in-Ok-Printed.field-0-is at reached.plain in
    c.print_answer.ensures.ends words (g.F.Folders.files c.args.folders) c.args.folders
    (plain, session_printed words (g.F.Folders.files c.args.folders) c.args.of.base.now c.args.of.folder.now c.in-Ok-Printed.answer asks stops, reached.cause.kept)

pub returns-in-Err-clause-ends : goal.returns-in-Err-clause-ends
returns-in-Err-clause-ends g c words asks =
    let files = g.F.Folders.files c.args.folders in
    c.print_answer-in-Err.ensures.ends words files c.args.folders
    (no_answer words files _ (Session c.args.of.base.now c.args.of.folder.now None) c.in-Err.fault asks c.in-Err.ensures.failed c.in-Err.ensures.cause)
