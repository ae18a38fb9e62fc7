use Rattle.std.proofs.Common.{◌≡◌, ◌∷◌, [], ◌++◌, ap, ◌∙◌, arith}
use Rattle.json_text.specs.Compact.{escaped}
use Rattle.json_text.specs.Drafts.{onto}
use Rattle.json_text.proofs.Drafts.{onto_twice}
use Rattle.json_text.proofs.Runs.{turn, ended}
use Rattle.json_text.proofs.texts.append_quoted.Goals as goal

pub loop-behind-preserved : goal.loop-behind-preserved
loop-behind-preserved c =
    let l = c.loop-behind in
    rw c.after-rest.ensures.value
    (turn l.out c.append.new.self c.append_escaped.new.out _ l.rest.now c.after-behind.result.now c.run_len-count.result l.invariant c.run_len-count.ensures.value c.after-behind.ensures.value
    (c.append.ensures ∙ ap (λ s. onto l.out s) c.split_at.ensures.front) (grind arith) c.append_escaped.ensures)

pub returns : goal.returns
returns c =
    let l = c.loop-behind in
    let text = escaped c.args.bytes.now in
    let all : c.append.new.self ≡ onto c.push.new.self text =
    ended l.out c.append.new.self _ l.rest.now c.after-behind.result.now c.run_len-count.result l.invariant c.run_len-count.ensures.value c.after-behind.ensures.value
    (c.append.ensures ∙ ap (λ s. onto l.out s) c.split_at.ensures.front) (grind arith) in
    c.push-2.ensures ∙ ap (λ d. onto d (34 ∷ [])) (all ∙ ap (λ d. onto d text) c.push.ensures)
    ∙ onto_twice (onto c.args.out.now (34 ∷ [])) text (34 ∷ []) ∙ onto_twice c.args.out.now (34 ∷ []) (text ++ 34 ∷ [])
