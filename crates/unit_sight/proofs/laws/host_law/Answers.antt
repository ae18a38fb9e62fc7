use Rattle.unit_sight.proofs.HostLaws.{host_first, host_none}
use Rattle.unit_sight.proofs.laws.host_law.Goals as goal

pub returns-clause-first : goal.returns-clause-first
returns-clause-first c = host_first

pub returns-clause-none : goal.returns-clause-none
returns-clause-none c = host_none
