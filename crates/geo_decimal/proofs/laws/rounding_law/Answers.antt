use Rattle.geo_decimal.proofs.Nearest.{rounded_nearest}
use Rattle.geo_decimal.proofs.laws.rounding_law.Goals as goal

pub returns : goal.returns
returns c = rounded_nearest
