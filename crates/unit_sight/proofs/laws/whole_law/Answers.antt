use Rattle.unit_sight.proofs.HostLaws.{seeing_whole, blind_whole}
use Rattle.unit_sight.proofs.laws.whole_law.Goals as goal

pub returns-clause-seeing : goal.returns-clause-seeing
returns-clause-seeing c = seeing_whole

pub returns-clause-blind : goal.returns-clause-blind
returns-clause-blind c = blind_whole
