use Rattle.venue_state.proofs.NextEntries.{next_may, next_worker_some, next_worker_range, next_settings, next_unready}
use Rattle.venue_state.proofs.entry_laws.following_law.Goals as goal

pub returns-clause-may : goal.returns-clause-may
returns-clause-may c = next_may

pub returns-clause-worker_some : goal.returns-clause-worker_some
returns-clause-worker_some c = next_worker_some

pub returns-clause-worker_range : goal.returns-clause-worker_range
returns-clause-worker_range c = next_worker_range

pub returns-clause-settings : goal.returns-clause-settings
returns-clause-settings c = next_settings

pub returns-clause-unready : goal.returns-clause-unready
returns-clause-unready c = λ h k e v why stands legal is. next_unready h k e v why (c.version_law.ensures.closable h v stands) stands legal is
