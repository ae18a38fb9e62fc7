use Rattle.std.proofs.Common.{refl}
use Rattle.imdf_read.proofs.rows.kiosks_to_openings.Goals as goal

pub returns-clause-progress : goal.returns-clause-progress
returns-clause-progress c = λ up. c.in_ok-openings.ensures.progress 11 refl (c.in_ok-occupants.ensures.progress 10 refl (c.in_ok-levels.ensures.progress 9 refl (c.in_ok-kiosks.ensures.progress 8 refl up)))
