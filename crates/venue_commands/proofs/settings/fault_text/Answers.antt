use Rattle.std.specs.Prelude.{string_bytes}
use Rattle.venue_settings.specs.declared.fault.SettingsFault.TheVariants as fault
use Rattle.venue_commands.proofs.Settling.{fault_line}
use Rattle.venue_commands.proofs.settings.fault_text.Goals as goal

pub returns-in_ok-keyed-in-Missing-clause-text : goal.returns-in_ok-keyed-in-Missing-clause-text
returns-in_ok-keyed-in-Missing-clause-text c =
    let text = c.in_ok-keyed-in-Missing in
    fault_line c.args.fault (fault.Missing c.in-Missing.key) (string_bytes text.field-0) c.in-Missing.is text.ensures

pub returns-in_ok-keyed-in-WrongKind-clause-text : goal.returns-in_ok-keyed-in-WrongKind-clause-text
returns-in_ok-keyed-in-WrongKind-clause-text c =
    let text = c.in_ok-keyed-in-WrongKind in
    fault_line c.args.fault (fault.WrongKind c.in-WrongKind.key) (string_bytes text.field-0) c.in-WrongKind.is text.ensures

pub returns-in_ok-keyed-in-Range-clause-text : goal.returns-in_ok-keyed-in-Range-clause-text
returns-in_ok-keyed-in-Range-clause-text c =
    let text = c.in_ok-keyed-in-Range in
    fault_line c.args.fault (fault.Range c.in-Range.key) (string_bytes text.field-0) c.in-Range.is text.ensures

pub returns-in_ok-keyed-in-Unknown-clause-text : goal.returns-in_ok-keyed-in-Unknown-clause-text
returns-in_ok-keyed-in-Unknown-clause-text c =
    let text = c.in_ok-keyed-in-Unknown in
    fault_line c.args.fault (fault.Unknown c.in-Unknown.key) (string_bytes text.field-0) c.in-Unknown.is text.ensures

pub returns-in_ok-keyed-in-Twice-clause-text : goal.returns-in_ok-keyed-in-Twice-clause-text
returns-in_ok-keyed-in-Twice-clause-text c =
    let text = c.in_ok-keyed-in-Twice in
    fault_line c.args.fault (fault.Twice c.in-Twice.name) (string_bytes text.field-0) c.in-Twice.is text.ensures
