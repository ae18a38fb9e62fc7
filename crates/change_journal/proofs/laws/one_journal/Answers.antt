use Rattle.change_journal.proofs.Unique.{one_journal}
use Rattle.change_journal.proofs.laws.one_journal.Goals as goal

pub returns : goal.returns
returns c = one_journal
