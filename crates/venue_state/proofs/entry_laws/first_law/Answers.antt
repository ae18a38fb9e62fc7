use Rattle.venue_state.proofs.FirstEntries.{legal_some, first_worker, first_published, first_valid}
use Rattle.venue_state.proofs.entry_laws.first_law.Goals as goal

pub returns-clause-some : goal.returns-clause-some
returns-clause-some c = legal_some

pub returns-clause-worker : goal.returns-clause-worker
returns-clause-worker c = first_worker

pub returns-clause-published : goal.returns-clause-published
returns-clause-published c = first_published

pub returns-clause-valid : goal.returns-clause-valid
returns-clause-valid c = first_valid
