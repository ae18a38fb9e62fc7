use Rattle.venue_ports.proofs.Tears.{kept, no_shorter, no_longer, left_synced}
use Rattle.venue_ports.proofs.disk_laws.left_law.Goals as goal

pub returns-clause-kept : goal.returns-clause-kept
returns-clause-kept c = kept

pub returns-clause-no_shorter : goal.returns-clause-no_shorter
returns-clause-no_shorter c = no_shorter

pub returns-clause-no_longer : goal.returns-clause-no_longer
returns-clause-no_longer c = no_longer

pub returns-clause-synced : goal.returns-clause-synced
returns-clause-synced c = left_synced
