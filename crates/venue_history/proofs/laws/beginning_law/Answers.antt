use Rattle.venue_history.proofs.Beginnings.{legal_beginning}
use Rattle.venue_history.proofs.laws.beginning_law.Goals as goal

pub returns : goal.returns
returns c = legal_beginning
