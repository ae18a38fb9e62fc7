use Rattle.std.proofs.Common.{rules, Err}
use Rattle.toml.specs.View.{table_view}
use Rattle.venue_settings.specs.Settings.{IsSettingsOf}
use Rattle.venue_settings.proofs.Whole.{none_or, read_is}
use Rattle.venue_settings.proofs.settings.read_settings.Goals as goal

pub returns-in_err-table : goal.returns-in_err-table
returns-in_err-table c =
    let none : IsSettingsOf c.args.bytes.now (Err c.in_err-table.field-0.0) = none_or c.args.bytes.now c.in_err-table.field-0.0 c.in_err-table.ensures.none in
    search (rules, none)

pub returns : goal.returns
returns c = read_is c.args.bytes.now (table_view c.in_ok-table.table) c.settings_in.result c.in_ok-table.ensures.document c.settings_in.ensures.judged c.settings_in.ensures.settings
