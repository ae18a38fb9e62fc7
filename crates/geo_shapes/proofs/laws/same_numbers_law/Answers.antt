use Rattle.geo_shapes.proofs.NumbersCut.{number_cut}
use Rattle.geo_shapes.proofs.NumbersRead.{number_read}
use Rattle.geo_shapes.proofs.laws.same_numbers_law.Goals as goal

pub returns : goal.returns
returns c token = (number_cut token, number_read token)
