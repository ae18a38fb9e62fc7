use Rattle.venue_session.proofs.HeadlineEnds.{headline, broken_headline}
use Rattle.venue_session.proofs.headline_laws.headline_law.Goals as goal

pub returns : goal.returns
returns c = record { whole = headline; broken = broken_headline }
