use Rattle.plane_exact.proofs.SeesLaw.{sees_walls}
use Rattle.plane_exact.proofs.sight_laws.sees_law.Goals as goal

pub returns : goal.returns
returns c = sees_walls
