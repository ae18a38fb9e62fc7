use Rattle.geo_decimal.proofs.Positions.{cut_parts}
use Rattle.geo_decimal.proofs.parts.Parts.cut.Goals as goal

pub returns-clause-cut : goal.returns-clause-cut
returns-clause-cut c = cut_parts _ _ _ _ c.cut_minus-minus.ensures.text c.cut_minus-minus.ensures.minus c.cut_exponent.ensures.text c.cut_exponent.ensures.front c.cut_exponent.ensures.exponent c.cut_fraction.ensures.text c.cut_fraction.ensures.front
