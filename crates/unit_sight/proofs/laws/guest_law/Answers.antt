use Rattle.unit_sight.proofs.HostLaws.{hosted, host_sees, guest_alone}
use Rattle.unit_sight.proofs.laws.guest_law.Goals as goal

pub returns-clause-hosted : goal.returns-clause-hosted
returns-clause-hosted c = hosted

pub returns-clause-host : goal.returns-clause-host
returns-clause-host c = host_sees

pub returns-clause-alone : goal.returns-clause-alone
returns-clause-alone c = guest_alone
