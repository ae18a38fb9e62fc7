use Rattle.geo_shapes.proofs.Geometries.{one_shape}
use Rattle.geo_shapes.proofs.laws.one_shape_law.Goals as goal

pub returns : goal.returns
returns c geometry s t a b = one_shape c.one_value_law.ensures geometry s t a b
