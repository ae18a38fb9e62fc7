use Rattle.venue_session.proofs.Joining.{acts_then}
use Rattle.venue_session.proofs.laws.acts_then_law.Goals as goal

pub returns : goal.returns
returns c = acts_then
