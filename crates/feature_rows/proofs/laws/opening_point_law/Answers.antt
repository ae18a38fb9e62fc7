use Rattle.feature_rows.proofs.Closeness.{opening_point, beside_level, beside_unit}
use Rattle.feature_rows.proofs.laws.opening_point_law.Goals as goal

pub returns-clause-level : goal.returns-clause-level
returns-clause-level c features opening p id level close own at is = beside_level features p level close (opening_point features opening p own at) is.has

pub returns-clause-unit : goal.returns-clause-unit
returns-clause-unit c features opening p id unit close own at is = beside_unit features p unit close (opening_point features opening p own at) is.has
