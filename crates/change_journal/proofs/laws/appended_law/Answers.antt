use Rattle.change_journal.proofs.ReadBack.{read_back}
use Rattle.change_journal.proofs.laws.appended_law.Goals as goal

pub returns-clause-read : goal.returns-clause-read
returns-clause-read c = read_back
