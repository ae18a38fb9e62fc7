use Rattle.feature_rows.proofs.Closeness.{amenity_point, beside_level, beside_unit}
use Rattle.feature_rows.proofs.laws.amenity_point_law.Goals as goal

pub returns-clause-level : goal.returns-clause-level
returns-clause-level c features amenity id level close own is = beside_level features amenity.point level close (amenity_point features amenity own) is.has

pub returns-clause-unit : goal.returns-clause-unit
returns-clause-unit c features amenity id unit close own is = beside_unit features amenity.point unit close (amenity_point features amenity own) is.has
