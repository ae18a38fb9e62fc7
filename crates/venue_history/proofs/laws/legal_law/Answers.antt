use Rattle.venue_history.proofs.Beginnings.{legal_leads}
use Rattle.venue_history.proofs.laws.legal_law.Goals as goal

pub returns : goal.returns
returns c = legal_leads
