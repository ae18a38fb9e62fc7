use Rattle.plane_exact.proofs.TurnSight.{sight_turned}
use Rattle.plane_exact.proofs.sight_laws.sight_turn_law.Goals as goal

pub returns : goal.returns
returns c = sight_turned
