use Rattle.std.proofs.Common.{◌∙◌}
use Rattle.venue_session.specs.Built.{IsRejected}
use Rattle.venue_commands.proofs.base_venue.made_of.Goals as goal

pub returns-in_ok-text-in-Ok-Rejected-clause-told : goal.returns-in_ok-text-in-Ok-Rejected-clause-told
returns-in_ok-text-in-Ok-Rejected-clause-told c =
    let report = c.in-Ok-Rejected.report in
    let is : IsRejected c.args.files.now c.args.settings.now report = rw c.in-Ok-Rejected.field-0-is at c.in-Ok-Rejected.ensures in
    (report, is, c.printed.ensures.text ∙ c.in_ok-text-in-Ok-Rejected.ensures, c.printed.ensures.status)
