use Rattle.venue_session.proofs.Keeping.{acts_grows, acts_legal, acts_same, acts_made, acts_faults}
use Rattle.venue_session.proofs.laws.acts_hall_law.Goals as goal

pub returns : goal.returns
returns c = record { grows = acts_grows; legal = acts_legal; same = acts_same; made = acts_made; faults = acts_faults }
