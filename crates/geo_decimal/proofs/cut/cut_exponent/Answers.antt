use Rattle.std.proofs.Common.{◌≡◌, true, sym, subst}
use Rattle.geo_decimal.specs.Cutting.{is_mark}
use Rattle.geo_decimal.proofs.Positions.{none_before, none_at_all, passes_at}
use Rattle.geo_decimal.proofs.cut.cut_exponent.Goals as goal

pub returns-in-Some-clause-front : goal.returns-in-Some-clause-front
returns-in-Some-clause-front c = none_before is_mark c.args.text.now c.in-Some.at c.in-Some.ensures

pub returns-in-Some-clause-exponent : goal.returns-in-Some-clause-exponent
returns-in-Some-clause-exponent c = record {
  mark = let at = passes_at is_mark c.args.text.now c.in-Some.at c.in-Some.ensures in subst (λ m. is_mark m ≡ true) (sym c.cut_sign.ensures.mark) at.1;
  sign = c.cut_sign.ensures.sign;
  unsigned = c.cut_sign.ensures.unsigned;
}

pub returns-in-None-clause-front : goal.returns-in-None-clause-front
returns-in-None-clause-front c = none_at_all is_mark c.args.text.now c.in-None.ensures
