use Rattle.geo_decimal.proofs.ReadBack.{read_back}
use Rattle.geo_decimal.proofs.laws.reads_back_law.Goals as goal

pub returns : goal.returns
returns c = read_back
