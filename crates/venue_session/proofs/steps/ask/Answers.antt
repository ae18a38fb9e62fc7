use Rattle.venue_session.proofs.Asking.{asked_again}
use Rattle.venue_session.proofs.steps.ask.Goals as goal

pub returns-in-Ahead : goal.returns-in-Ahead
returns-in-Ahead g c = asked_again c.number_law.ensures _ _ _ c.args.query.now _ _ _ c.in-Ahead.ensures.reply c.in-Ahead.ensures.grows c.in-Ahead.ensures.kept c.ask_again.ensures
