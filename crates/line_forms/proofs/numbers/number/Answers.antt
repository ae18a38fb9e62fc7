use Rattle.std.proofs.Common.{◌≡◌, ℕ, ◌+◌, ◌*◌, ◌≤◌, ◌^◌, true, true≢false, take, sym, ap, subst, ◌∙◌, arith}
use Rattle.std.specs.Char.{digit_value}
use Rattle.std.specs.Str.Parse.{AllDigits, digits_value}
use Rattle.std.proofs.lemmas.List.{take_all}
use Rattle.std.proofs.lemmas.Int.Digits.{digits_value_more, digits_more}
use Rattle.line_forms.specs.Plain.{is_plain}
use Rattle.line_forms.proofs.NumberLemmas.{decimal_plain, no_digit, too_large, plain_number}
use Rattle.line_forms.proofs.numbers.number.Goals as goal

pub returns-then-not-is_plain-clause-none : goal.returns-then-not-is_plain-clause-none
returns-then-not-is_plain-clause-none c = λ n fits e.
    true≢false (sym (decimal_plain n fits) ∙ ap is_plain (sym e) ∙ sym c.is_plain.ensures ∙ c.if-not-is_plain.true)

pub returns-in_err-next-clause-none : goal.returns-in_err-next-clause-none
returns-in_err-next-clause-none c = rw c.from_residual.ensures (λ n fits e.
    no_digit c.args.word.now n c.loop-byte.byte-index fits e c.loop-byte-test.true c.in_err-next.ensures.none)

pub returns-in_err-checked_mul-clause-none : goal.returns-in_err-checked_mul-clause-none
returns-in_err-checked_mul-clause-none c = rw c.from_residual-in_err-checked_mul.ensures (λ n fits e.
    let high : 2 ^ 64 ≤ c.loop-byte.value * 10 = omega (arith, c.in_err-checked_mul.ensures) in
    too_large c.args.word.now n c.loop-byte.byte-index fits e c.loop-byte-test.true (omega (arith, high, c.loop-byte.invariant.value)))

pub returns-in_err-value-clause-none : goal.returns-in_err-value-clause-none
returns-in_err-value-clause-none c = rw c.from_residual-in_err-value.ensures (λ n fits e.
    let high : 2 ^ 64 ≤ c.in_ok-checked_mul.field-0 + c.in_ok-next.next = omega (arith, c.in_err-value.ensures) in
    too_large c.args.word.now n c.loop-byte.byte-index fits e c.loop-byte-test.true (omega (arith, high, c.loop-byte.invariant.value, c.in_ok-checked_mul.ensures, c.in_ok-next.ensures.found.0)))

pub loop-byte-preserved : goal.loop-byte-preserved
loop-byte-preserved c =
    let found = c.in_ok-next.ensures.found in
    record {
      digits = digits_more 10 c.args.word.now c.loop-byte.byte-index c.loop-byte-test.true c.loop-byte.invariant.digits (omega (arith, found.0, found.1));
      value = omega (arith, found.0, c.loop-byte.invariant.value, c.in_ok-checked_mul.ensures, c.in_ok-value.ensures, digits_value_more 10 c.args.word.now c.loop-byte.byte-index c.loop-byte-test.true);
      fits = omega (arith, c.in_ok-value.ensures);
    }

pub returns-clause-found : goal.returns-clause-found
returns-clause-found c =
    let word = c.args.word.now in
    let all : take c.loop-byte.byte-index word ≡ word = take_all c.loop-byte.byte-index word (omega arith) in
    let plain : is_plain word ≡ true = sym c.is_plain.ensures ∙ c.if-not-is_plain.false in
    let value : c.loop-byte.value ≡ digits_value 10 word = c.loop-byte.invariant.value ∙ ap (digits_value 10) all in
    let spelled = plain_number word plain (subst (AllDigits 10) all c.loop-byte.invariant.digits) (omega (arith, value, c.loop-byte.invariant.fits)) in
    (subst (λ (n : ℕ). word ≡ Rattle.std.specs.Fmt.decimal n) (sym value) spelled, c.loop-byte.invariant.fits)
