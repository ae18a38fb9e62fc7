use Rattle.std.proofs.Common.{◌≡◌, ◌<◌, ◌^◌, ◌++◌, sym, ◌∙◌, arith}
use Rattle.std.proofs.lemmas.List.{append_cancel_left}
use Rattle.std.proofs.lemmas.Fmt.{decimal_injective}
use Rattle.std.specs.Fmt.{decimal}
use Rattle.line_forms.proofs.LineLemmas.{no_line, same_line}
use Rattle.route_certificate.proofs.AnswerLines.{Lacks-tested, Lacks-numbered}
use Rattle.route_certificate.proofs.answer_lines.number_line.Goals as goal
use Rattle.route_certificate.proofs.answer_lines.number_line.Goals.{else-low-found-via-then-low-found+else-found-below, else-low-found-via-else-low-found}

pub returns-in_err-body-clause-none : goal.returns-in_err-body-clause-none
returns-in_err-body-clause-none c = rw c.from_residual.ensures (λ n more fits e. no_line c.args.text.now (c.args.front.now ++ decimal n) more c.in_err-body.ensures.none e)

pub returns-in_err-after-clause-none : goal.returns-in_err-after-clause-none
returns-in_err-after-clause-none c =
    rw c.from_residual-in_err-after.ensures (λ n more fits e.
    let lacks = Lacks-numbered c.args.front.now n (Lacks-tested c.args.front.now c.requires) (omega (arith, fits.most)) in
    let same = same_line c.args.text.now c.in_ok-body.body.now c.in_ok-body.rest.now (c.args.front.now ++ decimal n) more c.in_ok-body.ensures.found lacks e in
    c.in_err-after.ensures.none (decimal n) same.0)

pub returns-in_err-found-clause-none : goal.returns-in_err-found-clause-none
returns-in_err-found-clause-none c =
    rw c.from_residual-in_err-found.ensures (λ n more fits e.
    let small : n < 2 ^ 64 = omega (arith, fits.most) in
    let lacks = Lacks-numbered c.args.front.now n (Lacks-tested c.args.front.now c.requires) small in
    let same = same_line c.args.text.now c.in_ok-body.body.now c.in_ok-body.rest.now (c.args.front.now ++ decimal n) more c.in_ok-body.ensures.found lacks e in
    c.in_err-found.ensures.none n small (append_cancel_left c.args.front.now c.in_ok-after.field-0.now (decimal n) (sym c.in_ok-after.ensures.found ∙ same.0)))

pub returns-else-low-found-clause-none : goal.returns-else-low-found-clause-none
returns-else-low-found-clause-none c = λ n more fits e.
    let small : n < 2 ^ 64 = omega (arith, fits.most) in
    let lacks = Lacks-numbered c.args.front.now n (Lacks-tested c.args.front.now c.requires) small in
    let same = same_line c.args.text.now c.in_ok-body.body.now c.in_ok-body.rest.now (c.args.front.now ++ decimal n) more c.in_ok-body.ensures.found lacks e in
    let number = c.in_ok-found.ensures.found in
    let is : c.in_ok-found.found ≡ n = decimal_injective c.in_ok-found.found n number.1 small
    (sym number.0 ∙ append_cancel_left c.args.front.now c.in_ok-after.field-0.now (decimal n) (sym c.in_ok-after.ensures.found ∙ same.0)) in
    elim c.else-low-found.branch [
      | else-low-found-via-then-low-found+else-found-below w ↦ omega (arith, is, fits.most)
      | else-low-found-via-else-low-found w ↦ omega (arith, is, fits.least)
    ]
