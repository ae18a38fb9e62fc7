use Rattle.std.proofs.Common.{◌<◌, ℕ, List, length, subst}
use Rattle.venue_session.proofs.Goings.{short_itself}
use Rattle.venue_session.proofs.whole_session.run_where_due.Goals as goal

pub returns-then-waiting-least : goal.returns-then-waiting-least
returns-then-waiting-least g c = λ first taken going stays.
    let below : length c.args.input.now < c.args.least
    = subst (λ (b : List ℕ). length b < c.args.least) c.waiting.ensures c.if-waiting-least.true in
    (going, (short_itself c.args.input.now c.args.least stays below, stays))
