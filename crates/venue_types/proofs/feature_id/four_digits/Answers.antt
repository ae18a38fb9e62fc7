use Rattle.std.proofs.Common.{subst, sym, ◌∙◌, ◌+◌, ◌<◌, ℕ, get_or}
use Rattle.venue_types.specs.Fours.{IsFour}
use Rattle.venue_types.proofs.FourLemmas.{four_is, four_read, four_fits}
use Rattle.venue_types.proofs.feature_id.four_digits.Goals as goal

pub returns-clause-read : goal.returns-clause-read
returns-clause-read c = λ n is.
    let text = c.args.text.now in
    let at = c.args.at in
    four_is (get_or text at 0) (get_or text (at + 1) 0) (get_or text (at + 2) 0) (get_or text (at + 3) 0) _ _ _ _ c.digit-a.ensures.value c.digit-b.ensures.value c.digit-c.ensures.value c.digit-d.ensures.value
    ∙ four_read text at n is

pub returns-clause-fits : goal.returns-clause-fits
returns-clause-fits c = λ fits.
    let text = c.args.text.now in
    let at = c.args.at in
    let is = four_is (get_or text at 0) (get_or text (at + 1) 0) (get_or text (at + 2) 0) (get_or text (at + 3) 0) _ _ _ _ c.digit-a.ensures.value c.digit-b.ensures.value c.digit-c.ensures.value c.digit-d.ensures.value in
    subst (IsFour text at) (sym is) (four_fits text at (subst (λ (n : ℕ). n < 524288) is fits))
