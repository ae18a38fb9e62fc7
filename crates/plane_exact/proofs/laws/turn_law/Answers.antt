use Rattle.plane_exact.proofs.DetourLaw.{IsLength-turned}
use Rattle.plane_exact.proofs.laws.turn_law.Goals as goal

pub returns : goal.returns
returns c = IsLength-turned
