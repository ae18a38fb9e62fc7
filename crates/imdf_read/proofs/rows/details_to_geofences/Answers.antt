use Rattle.std.proofs.Common.{refl}
use Rattle.imdf_read.proofs.rows.details_to_geofences.Goals as goal

pub returns-clause-progress : goal.returns-clause-progress
returns-clause-progress c = λ up. c.in_ok-geofences.ensures.progress 7 refl (c.in_ok-footprints.ensures.progress 6 refl (c.in_ok-fixtures.ensures.progress 5 refl (c.in_ok-details.ensures.progress 4 refl up)))
