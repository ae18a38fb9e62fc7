use Rattle.walk_laws.proofs.Theorems.{certifies}
use Rattle.walk_laws.proofs.laws.certificate_law.Goals as goal

pub returns : goal.returns
returns g c whole a b cost potential_of holds = certifies g.F.LinkFamily.view (g.F.LinkFamily.has whole) a b cost potential_of holds
