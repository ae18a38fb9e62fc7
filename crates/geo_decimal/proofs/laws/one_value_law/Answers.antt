use Rattle.geo_decimal.proofs.Values.{one_value}
use Rattle.geo_decimal.proofs.laws.one_value_law.Goals as goal

pub returns : goal.returns
returns c = one_value
