use Rattle.geo_shapes.specs.Geometry.{coordinates}
use Rattle.geo_shapes.proofs.Geometries.{one_line}
use Rattle.geo_shapes.proofs.laws.one_line_law.Goals as goal

pub returns : goal.returns
returns c geometry l m a b = one_line c.one_value_law.ensures (coordinates geometry) l m a b
