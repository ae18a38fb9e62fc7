use Rattle.std.proofs.Common.{◌≡◌, [], ◌∷◌, sym, ap, ◌∙◌, subst, arith}
use Rattle.exact_json.specs.Number.{head}
use Rattle.exact_json.specs.Slices.{AreTextsBefore}
use Rattle.exact_json.proofs.Texts.{head_cons}
use Rattle.exact_json.proofs.Slices.{then_quiet, spaced_byte}
use Rattle.exact_json.proofs.values.read_name.Goals as goal

pub returns-then-byte_at-eq58-clause-slices : goal.returns-then-byte_at-eq58-clause-slices
returns-then-byte_at-eq58-clause-slices c =
    let b = c.args.text.now in
    let mark = c.skip_spaces-mark.result.now in
    let rest = c.after-then-byte_at-eq58.result.now in
    let quote : head b ≡ 34 = grind arith in
    let colon : head mark ≡ 58 = grind arith in
    let whole : 34 ∷ c.after.result.now ≡ b = ap (λ l. 34 ∷ l) c.after.ensures.value ∙ sym (head_cons b 34 quote (λ e. omega (arith, e))) in
    let name = c.in_ok-name.name in
    then_quiet (name ∷ []) b c.in_ok-name.rest.now rest (subst (λ l. AreTextsBefore (name ∷ []) l c.in_ok-name.rest.now) whole c.in_ok-name.ensures.slices)
    (spaced_byte 58 c.in_ok-name.rest.now mark rest (λ e. omega (arith, e)) (λ e. omega (arith, e)) c.skip_spaces-mark.ensures.value colon c.after-then-byte_at-eq58.ensures.value)
