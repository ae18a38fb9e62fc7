use Rattle.venue_history.proofs.Sorting.{one_kind}
use Rattle.venue_history.proofs.laws.answer_law.Goals as goal

pub returns : goal.returns
returns c = one_kind
