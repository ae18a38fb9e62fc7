use Rattle.venue_session.proofs.Following.{acts_more}
use Rattle.venue_session.proofs.laws.acts_more_law.Goals as goal

pub returns : goal.returns
returns c = acts_more c.message_more_law.ensures.message c.message_length_law.ensures.within
