use Rattle.std.proofs.Common.{◌≡◌, ◌≢◌, take, drop, ◌∷◌, ◌++◌, sym, ap, ap₂, ◌∙◌, subst, arith, Some, take-append-drop}
use Rattle.exact_json.specs.Number.{head}
use Rattle.std.specs.List.{prefix_len}
use Rattle.exact_json.specs.StringReading.{text_at, is_plain}
use Rattle.exact_json.proofs.Texts.{whole_run, quoted, head_cons, has_backslash}
use Rattle.exact_json.proofs.Slices.{plain_text, made_text}
use Rattle.exact_json.proofs.text.read_text.Goals as goal

pub returns-then-byte_at-eq34-clause-value : goal.returns-then-byte_at-eq34-clause-value
returns-then-byte_at-eq34-clause-value c =
    let b = c.args.text.now in
    let n = c.plain_len-count.result in
    let s = c.after-stop.result.now in
    let h : head s ≡ 34 = grind arith in
    whole_run b n s c.plain_len-count.ensures.value c.after-stop.ensures.value ∙ quoted s (take n b) c.after.result.now h c.after.ensures.value
    ∙ ap (λ l. Some (l, c.after.result.now)) (sym c.split_at.ensures.front)

pub returns-then-byte_at-eq34-clause-slices : goal.returns-then-byte_at-eq34-clause-slices
returns-then-byte_at-eq34-clause-slices c =
    let b = c.args.text.now in
    let n = c.plain_len-count.result in
    let s = c.after-stop.result.now in
    let h : head s ≡ 34 = grind arith in
    plain_text b c.after.result.now c.split_at.result.0 (returns-then-byte_at-eq34-clause-value c)
    (sym (take-append-drop n b) ∙ ap (λ l. take n b ++ l) (sym c.after-stop.ensures.value ∙ head_cons s 34 h (λ e. omega (arith, e))) ∙ ap₂ (λ u v. u ++ 34 ∷ v) (sym c.split_at.ensures.front) (sym c.after.ensures.value))

pub returns-in_ok-keep-clause-slices : goal.returns-in_ok-keep-clause-slices
returns-in_ok-keep-clause-slices c =
    let b = c.args.text.now in
    let s = c.after-stop.result.now in
    let rest = c.in_ok-made.rest.now in
    let kept = c.in_ok-keep.field-0 in
    let at : s ≡ drop (prefix_len is_plain b) b = c.after-stop.ensures.value ∙ ap (λ n. drop n b) c.plain_len-count.ensures.value in
    let ne : head s ≢ 34 = grind arith in
    let found : text_at 0 b ≡ Some (kept.now, rest) = c.in_ok-made.ensures.value ∙ ap (λ text. Some (text, rest)) (sym (c.in_ok-keep.ensures ∙ c.as_slice.ensures.value)) in
    made_text b rest kept found (has_backslash b kept.now rest found (subst (λ l. head l ≢ 34) at ne))
