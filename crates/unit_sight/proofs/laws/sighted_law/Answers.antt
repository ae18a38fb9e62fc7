use Rattle.unit_sight.proofs.HostLaws.{sighted_see}
use Rattle.unit_sight.proofs.laws.sighted_law.Goals as goal

pub returns : goal.returns
returns c = sighted_see
