use Rattle.change_journal.proofs.Kept.{between, within}
use Rattle.change_journal.proofs.laws.kept_law.Goals as goal

pub returns-clause-between : goal.returns-clause-between
returns-clause-between c = between

pub returns-clause-within : goal.returns-clause-within
returns-clause-within c = within
