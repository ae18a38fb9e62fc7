use Rattle.venue_session.proofs.Completing.{question_told, change_told, standing_told}
use Rattle.venue_session.proofs.headline_laws.complete_law.Goals as goal

pub returns-clause-questions : goal.returns-clause-questions
returns-clause-questions c = question_told

pub returns-clause-changes : goal.returns-clause-changes
returns-clause-changes c = change_told c.one_outcome.ensures.not_both

pub returns-clause-standing : goal.returns-clause-standing
returns-clause-standing c = standing_told
