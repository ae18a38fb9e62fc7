use Rattle.venue_hall.proofs.Answered.{one_kind}
use Rattle.venue_hall.proofs.laws.answered_law.Goals as goal

pub returns : goal.returns
returns c = one_kind c.answer_law.ensures
