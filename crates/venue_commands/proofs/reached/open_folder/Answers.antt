use Rattle.venue_commands.proofs.Openings.{made_start, opened_stopped, opened_under}
use Rattle.venue_commands.proofs.reached.open_folder.Goals as goal

pub returns-in-Stopped-clause-told : goal.returns-in-Stopped-clause-told
returns-in-Stopped-clause-told g c =
    opened_stopped (g.F.Folders.files c.args.folders.now) c.args.of.base.now c.args.of.folder.now c.args.settings.now c.in_ok-files.files c.in_ok-answer.field-0 c.in-Stopped.answer
    c.in_ok-files.ensures.told c.in_ok-answer.ensures.told c.in-Stopped.is

pub returns-in-Ok-clause-told : goal.returns-in-Ok-clause-told
returns-in-Ok-clause-told g c =
    opened_under (g.F.Folders.files c.args.folders.now) c.args.of.base.now c.args.of.folder.now c.args.settings.now c.in_ok-files.files c.in_ok-answer.field-0 c.in-Venue.venue c.in-Ok.opening
    c.in_ok-files.ensures.told c.in_ok-answer.ensures.told c.in-Venue.is c.in-Ok.ensures.base c.in-Ok.ensures.files c.in-Ok.ensures.venue

pub returns-in-Ok-clause-settings : goal.returns-in-Ok-clause-settings
returns-in-Ok-clause-settings g c =
    made_start c.args.settings.now c.in_ok-files.files c.in_ok-answer.field-0 c.in-Venue.venue c.in-Ok.opening c.in_ok-files.ensures.seventeen c.in_ok-answer.ensures.told c.in-Venue.is
    c.in-Ok.ensures.files c.in-Ok.ensures.venue c.in-Ok.ensures.settings
