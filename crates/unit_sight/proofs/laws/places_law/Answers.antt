use Rattle.unit_sight.proofs.PlacesLaw.{joined_by_place, host_by_place}
use Rattle.unit_sight.proofs.laws.places_law.Goals as goal

pub returns-clause-joined : goal.returns-clause-joined
returns-clause-joined c = joined_by_place

pub returns-clause-host : goal.returns-clause-host
returns-clause-host c = host_by_place
