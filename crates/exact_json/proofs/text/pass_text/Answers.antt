use Rattle.std.proofs.Common.{◌≡◌, ◌≢◌, sym, ◌∙◌, arith}
use Rattle.exact_json.specs.Number.{head}
use Rattle.exact_json.proofs.Passes.{past_run, past_quote, past_stop, past_escape, past_no_escape}
use Rattle.exact_json.proofs.text.pass_text.Goals as goal

pub returns-in-34-clause-value : goal.returns-in-34-clause-value
returns-in-34-clause-value c =
    let s = c.after-stop.result.now in
    let h : head s ≡ 34 = grind arith in
    sym (c.loop-code.invariant.0 ∙ past_run c.loop-code.rest.now s c.plain_len.result c.plain_len.ensures.value c.after-stop.ensures.value ∙ past_quote s c.after.result.now h c.after.ensures.value)

pub returns-in_default-escape-clause-value : goal.returns-in_default-escape-clause-value
returns-in_default-escape-clause-value c =
    let s = c.after-stop.result.now in
    let h : head s ≡ 92 = grind arith in
    sym (c.loop-code.invariant.0 ∙ past_run c.loop-code.rest.now s c.plain_len.result c.plain_len.ensures.value c.after-stop.ensures.value ∙ past_no_escape s c.after-code.result.now h c.after-code.ensures.value (sym c.in_default-escape.ensures.value))

pub loop-code-preserved : goal.loop-code-preserved
loop-code-preserved c =
    let s = c.after-stop.result.now in
    let h : head s ≡ 92 = grind arith in (
      c.loop-code.invariant.0 ∙ past_run c.loop-code.rest.now s c.plain_len.result c.plain_len.ensures.value c.after-stop.ensures.value
          ∙ past_escape s c.after-code.result.now c.after-rest.result.now (c.in-Some.field-0-0, c.in-Some.count) h c.after-code.ensures.value (sym c.in-Some.ensures.value) c.after-rest.ensures.value,
      omega arith,
    )

pub returns-in_default-clause-value : goal.returns-in_default-clause-value
returns-in_default-clause-value c =
    let s = c.after-stop.result.now in
    let nq : head s ≢ 34 = grind arith in
    let nb : head s ≢ 92 = grind arith in
    sym (c.loop-code.invariant.0 ∙ past_run c.loop-code.rest.now s c.plain_len.result c.plain_len.ensures.value c.after-stop.ensures.value ∙ past_stop c.loop-code.rest.now s c.plain_len.result c.plain_len.ensures.value c.after-stop.ensures.value nq nb)
