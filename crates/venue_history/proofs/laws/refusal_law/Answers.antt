use Rattle.venue_history.proofs.Deciding.{one_reply}
use Rattle.venue_history.proofs.laws.refusal_law.Goals as goal

pub returns : goal.returns
returns c = one_reply c.one_outcome.ensures.not_both
