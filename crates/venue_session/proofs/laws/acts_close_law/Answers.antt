use Rattle.venue_session.proofs.Keeping.{acts_close}
use Rattle.venue_session.proofs.laws.acts_close_law.Goals as goal

pub returns : goal.returns
returns c = acts_close
