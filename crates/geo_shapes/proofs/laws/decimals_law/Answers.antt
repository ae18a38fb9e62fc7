use Rattle.exact_json.specs.Number.{IsNumber}
use Rattle.geo_decimal.specs.Number.{IsNumber as IsDecimal}
use Rattle.geo_shapes.proofs.NumbersCut.{number_cut}
use Rattle.geo_shapes.proofs.NumberTokens.{all_numbers}
use Rattle.geo_shapes.proofs.laws.decimals_law.Goals as goal

pub returns : goal.returns
returns c bytes value h = all_numbers IsNumber IsDecimal number_cut value (c.numbers_law.ensures bytes value h)
