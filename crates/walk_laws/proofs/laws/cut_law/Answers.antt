use Rattle.walk_laws.proofs.Theorems.{cuts_off}
use Rattle.walk_laws.proofs.laws.cut_law.Goals as goal

pub returns : goal.returns
returns g c whole a b reached holds = cuts_off g.F.LinkFamily.view (g.F.LinkFamily.has whole) a b reached holds
