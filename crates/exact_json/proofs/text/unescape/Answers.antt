use Rattle.std.proofs.Common.{◌≡◌, ◌≢◌, ◌++◌, take, sym, ◌∙◌, arith}
use Rattle.std.specs.Char.{encode_utf8}
use Rattle.exact_json.specs.Number.{head}
use Rattle.exact_json.specs.StringReading.{text_at, prepend}
use Rattle.exact_json.proofs.Texts.{turn, quoted, stopped, escapes, no_escape}
use Rattle.exact_json.proofs.text.unescape.Goals as goal
use Rattle.exact_json.proofs.text.unescape.Goals.{After-after-stop}

run : (c : After-after-stop) → text_at 0 c.args.text.now ≡ prepend c.extend_from_slice.new.self.items (text_at 0 c.after-stop.result.now)
run c =
    let l = c.loop-made in
    let grown : c.extend_from_slice.new.self.items ≡ l.made.items ++ take c.plain_len-count.result l.rest.now = grind arith in
    turn c.args.text.now l.made.items l.rest.now c.plain_len-count.result c.after-stop.result.now c.extend_from_slice.new.self.items l.invariant.0 c.plain_len-count.ensures.value c.after-stop.ensures.value grown

pub returns-in-34-clause-value : goal.returns-in-34-clause-value
returns-in-34-clause-value c =
    let s = c.after-stop.result.now in
    let h : head s ≡ 34 = grind arith in
    run (goal.at.returns-in-34-clause-value c).After-after-stop ∙ quoted s c.extend_from_slice.new.self.items c.after.result.now h c.after.ensures.value

pub returns-in_default-escape-clause-value : goal.returns-in_default-escape-clause-value
returns-in_default-escape-clause-value c =
    let s = c.after-stop.result.now in
    let h : head s ≡ 92 = grind arith in
    run (goal.at.returns-in_default-escape-clause-value c).After-after-stop ∙ no_escape s c.after-code.result.now c.extend_from_slice.new.self.items h c.after-code.ensures.value (sym c.in_default-escape.ensures.value)

pub loop-made-preserved : goal.loop-made-preserved
loop-made-preserved c =
    let s = c.after-stop.result.now in
    let h : head s ≡ 92 = grind arith in
    let grown : c.append.new.made.items ≡ c.extend_from_slice.new.self.items ++ encode_utf8 c.in-Some.c = grind arith in (
      run (goal.at.loop-made-preserved c).After-after-stop
          ∙ escapes s c.after-code.result.now c.extend_from_slice.new.self.items c.append.new.made.items c.after-rest.result.now (c.in-Some.c, c.in-Some.len) h c.after-code.ensures.value (sym c.in-Some.ensures.value) grown c.after-rest.ensures.value,
      omega arith,
    )

pub returns-in_default-clause-value : goal.returns-in_default-clause-value
returns-in_default-clause-value c =
    let s = c.after-stop.result.now in
    let nq : head s ≢ 34 = grind arith in
    let nb : head s ≢ 92 = grind arith in
    run (goal.at.returns-in_default-clause-value c).After-after-stop ∙ stopped c.loop-made.rest.now c.plain_len-count.result s c.extend_from_slice.new.self.items c.plain_len-count.ensures.value c.after-stop.ensures.value nq nb
