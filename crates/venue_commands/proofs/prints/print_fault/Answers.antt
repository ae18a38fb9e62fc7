use Rattle.venue_commands.proofs.Ending.{ends_failed}
use Rattle.venue_commands.proofs.prints.print_fault.Goals as goal

pub returns-clause-ends : goal.returns-clause-ends
returns-clause-ends g c words files folders fails =
    let printed = c.write_all.ensures in
    ends_failed words files _ c.write_all.result fails.asked fails.asks fails.at fails.cause printed.ok printed.err printed.cause.kept printed.cause.failed printed.left
