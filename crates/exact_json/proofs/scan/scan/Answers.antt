use Rattle.std.proofs.Common.{◌≡◌, Ok, subst, rules, arith}
use Rattle.std.proofs.lemmas.Result.{err_from_is_err_and}
use Rattle.exact_json.specs.Scanning.{Stops, Leaves}
use Rattle.exact_json.proofs.scan.scan.Goals as goal

pub returns-in_err-behind : goal.returns-in_err-behind
returns-in_err-behind c =
    let e = c.in_err-behind.field-0.0 in
    let p = err_from_is_err_and c.from_residual.result c.from_residual.ensures.1 in
    let same : p.0 ≡ e = first_of (search (rules, p.2), grind (arith, p.2)) in
    let stops : Stops c.args.text.now e = c.in_err-behind.ensures.passed c.args.text.now c.loop-kinds.invariant in
    rw (p.1, same) stops

pub returns-in_err-start : goal.returns-in_err-start
returns-in_err-start c =
    let e = c.in_err-start.field-0.0 in
    let p = err_from_is_err_and c.from_residual-in_err-start.result c.from_residual-in_err-start.ensures.1 in
    let same : p.0 ≡ e = first_of (search (rules, p.2), grind (arith, p.2)) in
    let stops : Stops c.args.text.now e = c.in_err-start.ensures.passed c.args.text.now (c.in_ok-behind.ensures.passed c.args.text.now c.loop-kinds.invariant) in
    rw (p.1, same) stops

pub returns-in-End : goal.returns-in-End
returns-in-End c =
    let all = c.args.text.now in
    let kinds = c.leave.new.kinds in
    let ends : Leaves all kinds (Ok c.in_ok-start.field-0) = c.in_ok-start.ensures.passed all (c.in_ok-behind.ensures.passed all c.loop-kinds.invariant) in
    subst (λ b. Leaves all kinds (Ok b)) c.in-End.is ends
