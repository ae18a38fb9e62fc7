use Rattle.std.proofs.Common.{arith}
use Rattle.std.proofs.lemmas.Str.Parse.{digit_at}
use Rattle.geo_decimal.proofs.DigitValues.{after_more}
use Rattle.geo_decimal.proofs.digits.capped_value.Goals as goal

pub overflow_sub-digit : goal.overflow_sub-digit
overflow_sub-digit c = (digit_at c.args.digits.now c.loop-digit.digit-index c.requires (omega arith)).0

pub loop-digit-preserved : goal.loop-digit-preserved
loop-digit-preserved c = omega (arith, c.loop-digit.invariant, after_more 0 c.args.digits.now c.loop-digit.digit-index c.requires (omega arith), c.saturating_mul.ensures, c.saturating_add-value.ensures)
