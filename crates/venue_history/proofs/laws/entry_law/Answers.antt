use Rattle.venue_history.proofs.Beginnings.{replay_push}
use Rattle.venue_history.proofs.laws.entry_law.Goals as goal

pub returns : goal.returns
returns c = replay_push
