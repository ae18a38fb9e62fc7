use Rattle.unit_sight.proofs.HostLaws.{each_joined}
use Rattle.unit_sight.proofs.laws.joined_some_law.Goals as goal

pub returns : goal.returns
returns c = each_joined
