use Rattle.venue_commands.proofs.CanonCompleting.{written_out}
use Rattle.venue_commands.proofs.Completing.{served_out}
use Rattle.venue_commands.proofs.OneText.{not_both}
use Rattle.venue_commands.proofs.laws.run_complete_law.Goals as goal

pub returns-clause-not_both : goal.returns-clause-not_both
returns-clause-not_both c = not_both c.one_outcome.ensures.not_both

pub returns-clause-served : goal.returns-clause-served
returns-clause-served c = served_out c.one_outcome.ensures.not_both

pub returns-clause-written : goal.returns-clause-written
returns-clause-written c = written_out c.one_outcome.ensures.not_both c.one_outcome.ensures.one_venue
