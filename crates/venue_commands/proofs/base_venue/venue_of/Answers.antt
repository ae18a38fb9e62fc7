use Rattle.std.proofs.Common.{rules}
use Rattle.venue_commands.proofs.Failing.{in_folder}
use Rattle.std.proofs.Common.{◌∙◌}
use Rattle.venue_commands.proofs.VenueMaking.{stops_at_settings, is_made}
use Rattle.venue_commands.proofs.base_venue.venue_of.Goals as goal

pub returns-in-Err-clause-told : goal.returns-in-Err-clause-told
returns-in-Err-clause-told g c =
    stops_at_settings (g.F.Folders.files c.args.folders.now) c.args.of.base.now c.args.of.folder.now c.in_ok-settings.field-0 c.in-Err.text c.printed.result c.in_ok-settings.ensures.told c.in-Err.is
    c.printed.ensures.text c.printed.ensures.status

pub returns-clause-told : goal.returns-clause-told
returns-clause-told g c =
    is_made (g.F.Folders.files c.args.folders.now) (g.F.Folders.files c.settings_of.new.folders) c.args.of.base.now c.args.of.folder.now c.in_ok-settings.field-0 c.in-Ok.settings
    c.in_ok-files.files c.made_of.result c.in_ok-settings.ensures.same c.in_ok-settings.ensures.told c.in-Ok.is c.in_ok-files.ensures.told
    c.made_of.ensures.told

pub returns-in_err-files-clause-failed : goal.returns-in_err-files-clause-failed
returns-in_err-files-clause-failed g c is =
    in_folder (g.F.Folders.files c.args.folders.now) c.args.of.base.now c.args.of.folder.now c.in_ok-settings.field-0 c.in-Ok.settings (g.F.Folders.asked c.args.folders.now)
    (g.F.Folders.asked c.settings_of.new.folders) (g.F.Folders.asked c.files_at.new.folders) c.in_ok-settings.ensures.told c.in-Ok.is c.in_ok-settings.ensures.asked
    (c.files_at.ensures.failed (search rules))
