use Rattle.plane_exact.proofs.CornerLaws.{area_from_any}
use Rattle.plane_exact.proofs.corner_laws.area_law.Goals as goal

pub returns : goal.returns
returns c = area_from_any
