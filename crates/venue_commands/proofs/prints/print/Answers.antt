use Rattle.venue_commands.proofs.Ending.{ends_told, ends_short}
use Rattle.venue_commands.proofs.prints.print.Goals as goal

pub returns-in-Ok-clause-ends : goal.returns-in-Ok-clause-ends
returns-in-Ok-clause-ends g c words files folders plain output stayed =
    let wrote = c.in-Ok.ensures in
    ends_told words files _ c.args.answer.now.status c.args.answer.now.text c.as_slice.result.now c.as_slice.ensures plain output wrote.ok wrote.cause.kept stayed wrote.left

pub returns-in-Err-clause-ends : goal.returns-in-Err-clause-ends
returns-in-Err-clause-ends g c words files folders plain output stayed =
    let wrote = c.in-Err.ensures in
    ends_short words files _ c.args.answer.now.status c.args.answer.now.text c.as_slice.result.now c.as_slice.ensures output wrote.err wrote.cause.failed stayed wrote.left
