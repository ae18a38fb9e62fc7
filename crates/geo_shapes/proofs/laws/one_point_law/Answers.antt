use Rattle.geo_shapes.specs.Geometry.{coordinates}
use Rattle.geo_shapes.proofs.Positions.{one_position}
use Rattle.geo_shapes.proofs.laws.one_point_law.Goals as goal

pub returns : goal.returns
returns c geometry p q a b = one_position c.one_value_law.ensures (coordinates geometry) p q a b
