use Rattle.std.proofs.Common.{refl}
use Rattle.imdf_read.proofs.rows.relationships_to_venues.Goals as goal

pub returns-clause-progress : goal.returns-clause-progress
returns-clause-progress c = λ up. c.in_ok-venues.ensures.progress 15 refl (c.in_ok-units.ensures.progress 14 refl (c.in_ok-sections.ensures.progress 13 refl (c.in_ok-relationships.ensures.progress 12 refl up)))
