use Rattle.std.proofs.Common.{◌≤◌, ℕ, sym, subst, arith}
use Rattle.uuid.specs.Text.{by_index}
use Rattle.uuid.proofs.TextLemmas.{by_index_at}
use Rattle.venue_types.specs.Fours.{digit_or_other}
use Rattle.venue_types.proofs.FourLemmas.{digit_most}
use Rattle.venue_types.proofs.feature_id.digit.Goals as goal

pub returns-clause-value : goal.returns-clause-value
unfolding by_index
returns-clause-value c = by_index_at 256 digit_or_other c.args.byte 0 (omega arith)

pub returns-clause-most : goal.returns-clause-most
unfolding by_index
returns-clause-most c = subst (λ (n : ℕ). n ≤ 524288) (sym (by_index_at 256 digit_or_other c.args.byte 0 (omega arith))) (digit_most c.args.byte)
