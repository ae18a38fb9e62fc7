-- For nobody a feature stands as asked.
use Rattle.std.proofs.Common.{◌∙◌, sym}
use Rattle.venue_state.proofs.Readying.{done_for_nobody}
use Rattle.venue_state.proofs.changes.ready_for.Goals as goal

pub returns-in-Some-clause-unready : goal.returns-in-Some-clause-unready
returns-in-Some-clause-unready c =
    done_for_nobody c.args.board.now c.args.asked.now c.args.profiles (sym c.is_empty.ensures ∙ c.if-is_empty.true) c.in-Some.ensures.some.0
