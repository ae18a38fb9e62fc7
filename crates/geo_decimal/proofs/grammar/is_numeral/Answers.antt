use Rattle.std.proofs.Common.{sym, ◌∙◌, arith}
use Rattle.std.proofs.lemmas.Grind.{common_steps}
use Rattle.geo_decimal.proofs.DigitLists.{digits_from_test, digits_to_test}
use Rattle.geo_decimal.proofs.grammar.is_numeral.Goals as goal

pub returns-then-not-is_empty : goal.returns-then-not-is_empty
returns-then-not-is_empty c = (λ t. (grind (arith, common_steps), digits_from_test _ (sym c.are_digits.ensures ∙ t)), λ n. c.are_digits.ensures ∙ digits_to_test _ n.1)
