use Rattle.std.proofs.Common.{sym, ◌∙◌}
use Rattle.geo_decimal.proofs.Cuts.{whole_from_digits, whole_digits}
use Rattle.geo_decimal.proofs.DigitLists.{digits_from_test, digits_to_test}
use Rattle.geo_decimal.proofs.grammar.is_whole.Goals as goal

pub returns-else-first-eq48 : goal.returns-else-first-eq48
returns-else-first-eq48 c = (λ t. whole_from_digits c.args.text.now c.in-len1-up.len_at_least c.if-first-eq48.false (digits_from_test _ (sym c.are_digits.ensures ∙ t)), λ w. c.are_digits.ensures ∙ digits_to_test _ (whole_digits _ w))
