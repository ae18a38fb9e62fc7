use Rattle.plane_exact.proofs.DetourLaw.{detour}
use Rattle.plane_exact.proofs.laws.detour_law.Goals as goal

pub returns : goal.returns
returns c = detour
