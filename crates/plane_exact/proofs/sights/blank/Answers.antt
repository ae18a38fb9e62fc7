use Rattle.std.proofs.Common.{refl}
use Rattle.plane_exact.specs.Looks.{blank_look}
use Rattle.plane_exact.proofs.sights.blank.Goals as goal

pub returns : goal.returns
unfolding blank_look
returns c = refl
