use Rattle.venue_session.proofs.Joining.{acts_push}
use Rattle.venue_session.proofs.laws.acts_push_law.Goals as goal

pub returns : goal.returns
returns c = acts_push
