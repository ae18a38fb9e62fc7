use Rattle.plane_exact.proofs.SightLaw.{sight_decides}
use Rattle.plane_exact.proofs.sight_laws.sight_law.Goals as goal

pub returns : goal.returns
returns c = sight_decides
