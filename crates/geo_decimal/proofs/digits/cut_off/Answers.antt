use Rattle.std.proofs.Common.{◌≡◌, ◌≤◌, ℕ, sym, subst, Option, None}
use Rattle.std.specs.Option.{SomeIff}
use Rattle.std.specs.Str.Parse.{AllDigits}
use Rattle.geo_decimal.proofs.DigitValues.{digits_front, past_first, past_second, front_whole}
use Rattle.geo_decimal.proofs.digits.cut_off.Goals as goal

nothing_past : (r : Option ℕ) (size limit : ℕ) → r ≡ None → (size ≤ limit → ⊥) → SomeIff r (size ≤ limit) size
nothing_past r size limit e past = subst (λ o. SomeIff o (size ≤ limit) size) (sym e) past

pub with_digits-requires-clause-digits : goal.with_digits-requires-clause-digits
with_digits-requires-clause-digits c = subst (AllDigits 10) (sym c.front.ensures) (digits_front _ _ c.requires.whole)

pub with_digits-requires-2-clause-digits : goal.with_digits-requires-2-clause-digits
with_digits-requires-2-clause-digits c = subst (AllDigits 10) (sym c.front-2.ensures) (digits_front _ _ c.requires.fraction)

pub returns-in_err-value : goal.returns-in_err-value
returns-in_err-value c = nothing_past _ _ _ c.from_residual.ensures (past_first c.args.whole.now c.args.fraction.now c.args.kept _ _ c.front.ensures c.in_err-value.ensures)

pub returns-in_err-value-2 : goal.returns-in_err-value-2
returns-in_err-value-2 c =
    nothing_past _ _ _ c.from_residual-in_err-value-2.ensures
    (past_second c.args.whole.now c.args.fraction.now c.args.kept _ c.in_ok-value.value _ _ _ c.in_ok-value.ensures.1 c.front.ensures c.saturating_sub-behind.ensures c.front-2.ensures c.in_err-value-2.ensures)

pub returns : goal.returns
returns c =
    let same = front_whole c.args.whole.now c.args.fraction.now c.args.kept _ _ _ _ _ _ c.in_ok-value.ensures.1 c.front.ensures c.saturating_sub-behind.ensures c.front-2.ensures c.in_ok-value-2.ensures.1 c.saturating_sub.ensures in
    subst (λ size. SomeIff c.with_zeros.result (size ≤ 180000000000) size) same c.with_zeros.ensures
