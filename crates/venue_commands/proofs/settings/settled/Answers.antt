use Rattle.std.proofs.Common.{subst}
use Rattle.venue_settings.specs.Settings.{IsSettingsOf}
use Rattle.venue_commands.proofs.settings.settled.Goals as goal

pub returns-in_ok-fault_text-in-Err-clause-told : goal.returns-in_ok-fault_text-in-Err-clause-told
returns-in_ok-fault_text-in-Err-clause-told c = (c.in-Err.fault, subst (IsSettingsOf c.args.text.now) c.in-Err.is c.read_settings.ensures, c.in_ok-fault_text-in-Err.ensures.text)
