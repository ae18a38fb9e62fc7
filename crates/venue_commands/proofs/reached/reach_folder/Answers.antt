use Rattle.venue_commands.proofs.Failing.{in_folder}
use Rattle.venue_commands.proofs.Openings.{settings_stopped, folder_reached}
use Rattle.venue_commands.proofs.VenueMaking.{stops_at_settings}
use Rattle.venue_commands.proofs.reached.reach_folder.Goals as goal

pub returns-in-Ok-clause-told : goal.returns-in-Ok-clause-told
returns-in-Ok-clause-told g c =
    folder_reached (g.F.Folders.files c.args.folders.now) (g.F.Folders.files c.settings_of.new.folders) c.args.of.base.now c.args.of.folder.now c.in_ok-settings.field-0 c.in-Ok.settings
    c.open_folder.result c.in_ok-settings.ensures.same c.in_ok-settings.ensures.told c.in-Ok.is c.open_folder.ensures.told

pub returns-in-Err-clause-told : goal.returns-in-Err-clause-told
returns-in-Err-clause-told g c =
    settings_stopped (g.F.Folders.files c.args.folders.now) c.args.of.base.now c.args.of.folder.now c.printed.result
    (stops_at_settings (g.F.Folders.files c.args.folders.now) c.args.of.base.now c.args.of.folder.now c.in_ok-settings.field-0 c.in-Err.text c.printed.result c.in_ok-settings.ensures.told c.in-Err.is
    c.printed.ensures.text c.printed.ensures.status)

pub returns-in-Ok-clause-failed : goal.returns-in-Ok-clause-failed
returns-in-Ok-clause-failed g c is =
    in_folder (g.F.Folders.files c.args.folders.now) c.args.of.base.now c.args.of.folder.now c.in_ok-settings.field-0 c.in-Ok.settings (g.F.Folders.asked c.args.folders.now)
    (g.F.Folders.asked c.settings_of.new.folders) (g.F.Folders.asked c.open_folder.new.folders) c.in_ok-settings.ensures.told c.in-Ok.is c.in_ok-settings.ensures.asked
    (c.open_folder.ensures.failed is)
