use Rattle.std.proofs.Common.{◌≡◌, ℕ, ◌+◌, ◌*◌, ◌≤◌, ◌^◌, take, drop, true, true≢false, sym, ap, subst, ◌∙◌, arith}
use Rattle.std.specs.Fmt.{decimal}
use Rattle.std.specs.Str.Parse.{AllDigits}
use Rattle.std.proofs.lemmas.List.{take_all}
use Rattle.std.proofs.lemmas.Int.Digits.{digits_value_more, digits_more}
use Rattle.line_forms.specs.Lines.{word}
use Rattle.line_forms.specs.Plain.{is_plain}
use Rattle.line_forms.proofs.NumberLemmas.{decimal_plain, front_word, no_digit_word, too_large_word, no_space_word, word_read, rest_all}
use Rattle.line_forms.proofs.numbers.number_word.Goals as goal

pub returns-then-not-is_plain-clause-none : goal.returns-then-not-is_plain-clause-none
returns-then-not-is_plain-clause-none c = λ n rest fits e.
    let front = front_word c.args.text.now rest n c.loop-place.place fits e c.loop-place-test.true c.loop-place.invariant.digits c.if-byte-eq32.true in
    true≢false (sym (decimal_plain n fits) ∙ ap is_plain (sym front) ∙ sym c.is_plain.ensures ∙ c.if-not-is_plain.true)

pub returns-then-byte-eq32-clause-found : goal.returns-then-byte-eq32-clause-found
returns-then-byte-eq32-clause-found c =
    let text = c.args.text.now in
    let place = c.loop-place.place in
    let value = c.loop-place.invariant.value in
    let plain : is_plain (take place text) ≡ true = sym c.is_plain.ensures ∙ c.if-not-is_plain.false in
    let read = word_read text place c.loop-place-test.true plain c.loop-place.invariant.digits c.if-byte-eq32.true (omega (arith, value, c.loop-place.invariant.fits)) in
    (read ∙ ap (λ (n : ℕ). word (decimal n) (drop (place + 1) text)) (sym value) ∙ ap (word (decimal c.loop-place.value)) (sym (rest_all (place + 1) text)), c.loop-place.invariant.fits)

pub returns-in_err-next-clause-none : goal.returns-in_err-next-clause-none
returns-in_err-next-clause-none c = rw c.from_residual.ensures (λ n rest fits e.
    no_digit_word c.args.text.now rest n c.loop-place.place fits e c.loop-place-test.true c.loop-place.invariant.digits c.in_err-next.ensures.none c.if-byte-eq32.false)

pub returns-in_err-checked_mul-clause-none : goal.returns-in_err-checked_mul-clause-none
returns-in_err-checked_mul-clause-none c = rw c.from_residual-in_err-checked_mul.ensures (λ n rest fits e.
    let high : 2 ^ 64 ≤ c.loop-place.value * 10 = omega (arith, c.in_err-checked_mul.ensures) in
    let found = c.in_ok-next.ensures.found in
    let digits = digits_more 10 c.args.text.now c.loop-place.place c.loop-place-test.true c.loop-place.invariant.digits (omega (arith, found.0, found.1)) in
    too_large_word c.args.text.now rest n c.loop-place.place fits e c.loop-place-test.true digits (omega (arith, high, c.loop-place.invariant.value)))

pub returns-in_err-value-clause-none : goal.returns-in_err-value-clause-none
returns-in_err-value-clause-none c = rw c.from_residual-in_err-value.ensures (λ n rest fits e.
    let high : 2 ^ 64 ≤ c.in_ok-checked_mul.field-0 + c.in_ok-next.next = omega (arith, c.in_err-value.ensures) in
    let found = c.in_ok-next.ensures.found in
    let digits = digits_more 10 c.args.text.now c.loop-place.place c.loop-place-test.true c.loop-place.invariant.digits (omega (arith, found.0, found.1)) in
    too_large_word c.args.text.now rest n c.loop-place.place fits e c.loop-place-test.true digits (omega (arith, high, c.loop-place.invariant.value, c.in_ok-checked_mul.ensures, found.0)))

pub loop-place-preserved : goal.loop-place-preserved
loop-place-preserved c =
    let found = c.in_ok-next.ensures.found in
    record {
      digits = digits_more 10 c.args.text.now c.loop-place.place c.loop-place-test.true c.loop-place.invariant.digits (omega (arith, found.0, found.1));
      value = omega (arith, found.0, c.loop-place.invariant.value, c.in_ok-checked_mul.ensures, c.in_ok-value.ensures, digits_value_more 10 c.args.text.now c.loop-place.place c.loop-place-test.true);
      fits = omega (arith, c.in_ok-value.ensures);
    }

pub returns-clause-none : goal.returns-clause-none
returns-clause-none c = λ n rest fits e.
    let all : take c.loop-place.place c.args.text.now ≡ c.args.text.now = take_all c.loop-place.place c.args.text.now (omega arith) in
    no_space_word c.args.text.now rest n e (subst (AllDigits 10) all c.loop-place.invariant.digits)
