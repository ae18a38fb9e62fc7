use Rattle.venue_commands.proofs.Settling.{settles_missing, settles_large, settles}
use Rattle.venue_commands.proofs.settings.settings_of.Goals as goal

pub returns-in_ok-from_str-in-Missing-clause-told : goal.returns-in_ok-from_str-in-Missing-clause-told
returns-in_ok-from_str-in-Missing-clause-told g c =
    let text = c.in_ok-from_str-in-Missing in
    settles_missing (g.F.Folders.files c.args.folders.now) c.args.base.now c.in_ok-load.field-0 text.field-0 c.in_ok-load.ensures.told c.in-Missing.is text.ensures.ok

pub returns-in_ok-from_str-in-Large-clause-told : goal.returns-in_ok-from_str-in-Large-clause-told
returns-in_ok-from_str-in-Large-clause-told g c =
    let text = c.in_ok-from_str-in-Large in
    settles_large (g.F.Folders.files c.args.folders.now) c.args.base.now c.in_ok-load.field-0 text.field-0 c.in_ok-load.ensures.told c.in-Large.is text.ensures.ok

pub returns-in-Whole-clause-told : goal.returns-in-Whole-clause-told
returns-in-Whole-clause-told g c =
    settles (g.F.Folders.files c.args.folders.now) c.args.base.now c.in_ok-load.field-0 c.in-Whole.bytes c.as_slice.result.now c.settled.result c.in_ok-load.ensures.told c.in-Whole.is
    c.as_slice.ensures.value c.settled.ensures.told
