use Rattle.std.proofs.Common.{refl}
use Rattle.imdf_read.proofs.rows.addresses_to_buildings.Goals as goal

pub returns-clause-progress : goal.returns-clause-progress
returns-clause-progress c = λ up. c.in_ok-buildings.ensures.progress 3 refl (c.in_ok-anchors.ensures.progress 2 refl (c.in_ok-amenities.ensures.progress 1 refl (c.in_ok-addresses.ensures.progress 0 refl up)))
