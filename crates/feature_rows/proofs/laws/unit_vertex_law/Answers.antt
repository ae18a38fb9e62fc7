use Rattle.feature_rows.proofs.Closeness.{unit_vertex, beside_level, beside_unit}
use Rattle.feature_rows.proofs.laws.unit_vertex_law.Goals as goal

pub returns-clause-level : goal.returns-clause-level
returns-clause-level c features unit p id level close own at is = beside_level features p level close (unit_vertex features unit p own at) is.has

pub returns-clause-unit : goal.returns-clause-unit
returns-clause-unit c features unit p id other close own at is = beside_unit features p other close (unit_vertex features unit p own at) is.has
