use Rattle.std.proofs.Common.{◌≡◌, ◌+◌, drop, ap, sym, ◌∙◌, arith}
use Rattle.std.specs.List.{prefix_len}
use Rattle.std.proofs.lemmas.List.{drop-drop}
use Rattle.exact_json.specs.StringReading.{is_plain}
use Rattle.exact_json.proofs.text.plain_len.Goals as goal

pub loop-i-preserved : goal.loop-i-preserved
loop-i-preserved c =
    let b = c.args.text.now in
    let i = c.loop-i.i in
    let eight = c.are_eight_plain.ensures c.loop-i-test.true in
    let front = ap (prefix_len is_plain) (sym c.after.ensures.value) ∙ eight.1 in
    let behind : drop 8 c.after.result.now ≡ drop (i + 8) b = ap (drop 8) c.after.ensures.value ∙ drop-drop 8 i b in
    (c.loop-i.invariant.0 ∙ ap (λ n. i + n) (front ∙ ap (λ l. 8 + prefix_len is_plain l) behind) ∙ omega arith, omega (arith, eight.0, c.after.ensures.len))
