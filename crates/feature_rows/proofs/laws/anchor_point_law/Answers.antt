use Rattle.feature_rows.proofs.Closeness.{anchor_point, beside_level, beside_unit}
use Rattle.feature_rows.proofs.laws.anchor_point_law.Goals as goal

pub returns-clause-level : goal.returns-clause-level
returns-clause-level c features anchor id level close own is = beside_level features anchor.point level close (anchor_point features anchor own) is.has

pub returns-clause-unit : goal.returns-clause-unit
returns-clause-unit c features anchor id unit close own is = beside_unit features anchor.point unit close (anchor_point features anchor own) is.has
