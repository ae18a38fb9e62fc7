use Rattle.std.proofs.Common.{◌∙◌, ◌-◌, ◌*◌, arith}
use Rattle.geo_decimal.proofs.DigitValues.{zeros_grow, zeros_less}
use Rattle.geo_decimal.proofs.digits.with_zeros.Goals as goal

pub returns-then-value-gt-LIMIT : goal.returns-then-value-gt-LIMIT
returns-then-value-gt-LIMIT c =
    let less = zeros_less c.loop-zeros.value c.loop-zeros.zeros (omega arith) in
    let grow = zeros_grow (c.loop-zeros.value * 10) (c.loop-zeros.zeros - 1) in
    λ small. omega (arith, less, grow, small, c.loop-zeros.invariant.value, c.if-value-gt-LIMIT.true)

pub loop-zeros-preserved : goal.loop-zeros-preserved
loop-zeros-preserved c = record {
  value = zeros_less c.loop-zeros.value c.loop-zeros.zeros (omega arith) ∙ c.loop-zeros.invariant.value;
  within = omega (arith, c.if-value-gt-LIMIT.false);
}
