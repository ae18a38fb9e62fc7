use Rattle.std.proofs.Common.{◌≡◌, ◌+◌, drop, ap, sym, ◌∙◌, arith}
use Rattle.std.specs.List.{prefix_len}
use Rattle.std.proofs.lemmas.List.{drop-drop}
use Rattle.json_text.specs.Runs.{stands_as_it_is}
use Rattle.json_text.proofs.texts.run_len.Goals as goal

pub loop-i-preserved : goal.loop-i-preserved
loop-i-preserved c =
    let b = c.args.bytes.now in
    let i = c.loop-i.i in
    let eight = c.are_eight.ensures c.loop-i-test.true in
    let front = ap (prefix_len stands_as_it_is) (sym c.after.ensures.value) ∙ eight.1 in
    let behind : drop 8 c.after.result.now ≡ drop (i + 8) b = ap (drop 8) c.after.ensures.value ∙ drop-drop 8 i b in
    (c.loop-i.invariant.0 ∙ ap (λ n. i + n) (front ∙ ap (λ l. 8 + prefix_len stands_as_it_is l) behind) ∙ omega arith, omega (arith, eight.0, c.after.ensures.len))
