use Rattle.geo_decimal.proofs.Existence.{some_value}
use Rattle.geo_decimal.proofs.laws.value_law.Goals as goal

pub returns : goal.returns
returns c = some_value
