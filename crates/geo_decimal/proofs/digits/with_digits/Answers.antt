use Rattle.std.proofs.Common.{◌+◌, arith}
use Rattle.std.proofs.lemmas.Str.Parse.{digit_at}
use Rattle.geo_decimal.proofs.DigitValues.{after_more, after_front}
use Rattle.geo_decimal.proofs.digits.with_digits.Goals as goal

pub overflow_sub-value : goal.overflow_sub-value
overflow_sub-value c = (digit_at c.args.digits.now c.loop-digit.digit-index c.requires.digits (omega arith)).0

pub returns-then-value-gt-LIMIT : goal.returns-then-value-gt-LIMIT
returns-then-value-gt-LIMIT c =
    let step = after_more c.args.start c.args.digits.now c.loop-digit.digit-index c.requires.digits (omega arith) in
    let all = after_front c.args.start c.args.digits.now (c.loop-digit.digit-index + 1) in
    λ small. omega (arith, step, all, small, c.loop-digit.invariant.value, c.if-value-gt-LIMIT.true)

pub loop-digit-preserved : goal.loop-digit-preserved
loop-digit-preserved c = record {
  value = omega (arith, c.loop-digit.invariant.value, after_more c.args.start c.args.digits.now c.loop-digit.digit-index c.requires.digits (omega arith));
  within = omega (arith, c.if-value-gt-LIMIT.false);
}
