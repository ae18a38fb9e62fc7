use Rattle.venue_history.proofs.Beginnings.{replay_number}
use Rattle.venue_history.proofs.laws.number_law.Goals as goal

pub returns : goal.returns
returns c = replay_number
