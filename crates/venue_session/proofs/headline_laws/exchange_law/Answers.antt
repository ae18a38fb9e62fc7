use Rattle.venue_session.proofs.Completing.{exchange_asked, exchange_changed, exchange_standing}
use Rattle.venue_session.proofs.headline_laws.exchange_law.Goals as goal

pub returns-clause-asked : goal.returns-clause-asked
returns-clause-asked c = exchange_asked

pub returns-clause-changed : goal.returns-clause-changed
returns-clause-changed c = exchange_changed c.one_outcome.ensures.not_both

pub returns-clause-standing : goal.returns-clause-standing
returns-clause-standing c = exchange_standing
