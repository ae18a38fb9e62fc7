use Rattle.std.proofs.Common.{◌≡◌, ◌+◌, length, sym, subst, ◌∙◌, true≢false, arith}
use Rattle.line_forms.specs.Fronts.{HasNone}
use Rattle.line_forms.specs.Faults.{IsFaultLine}
use Rattle.route_certificate.specs.declared.table.WalkIn.{WalkIn}
use Rattle.route_certificate.specs.Forms.{IsWalkTextOver, from_line, FitsNode}
use Rattle.route_certificate.proofs.WalkLemmas.{WalkRead, walk_read, few_steps}
use Rattle.route_certificate.proofs.WalkFaults.{no_head, no_start, no_end, text_behind, some_nodes}
use Rattle.route_certificate.proofs.FaultNames.{named}
use Rattle.route_certificate.proofs.walk_text.read_walk.Goals as goal

pub returns-in_default-clause-fault : goal.returns-in_default-clause-fault
returns-in_default-clause-fault c = λ n is.
    subst (IsFaultLine (IsWalkTextOver c.args.table.now) c.args.text.now) (named {T = WalkIn} 1 n is) (no_head c.args.text.now c.args.table.now c.in_default.ensures.none)

pub returns-in_default-next_from-clause-fault : goal.returns-in_default-next_from-clause-fault
returns-in_default-next_from-clause-fault c = λ n is.
    let some = some_nodes c.args.table.now (λ e. true≢false (sym (c.is_empty.ensures.1 e) ∙ c.if-is_empty.false)) in
    let none = subst (λ n. HasNone from_line (FitsNode n) c.in-Some.rest.now) c.len.ensures c.in_default-next_from.ensures.none in
    subst (IsFaultLine (IsWalkTextOver c.args.table.now) c.args.text.now) (named {T = WalkIn} 2 n is)
    (no_start c.args.text.now c.in-Some.rest.now c.args.table.now some c.in-Some.ensures.found none)

pub returns-in-Whole-clause-few : goal.returns-in-Whole-clause-few
returns-in-Whole-clause-few c =
    let first = c.in-Some-next_from.ensures.found in
    let read = walk_read c.args.text.now c.in-Some.rest.now c.in-Some-next_from.rest.now c.in_ok-steps.rest.now c.len.result c.in-Some-next_from.from c.in_ok-steps.steps.items
    c.in-Some.ensures.found first.0 first.1 c.in_ok-steps.ensures in
    rw c.from_vec.ensures (few_steps c.args.text.now c.len.result c.in-Some-next_from.from c.in_ok-steps.steps.items c.in_ok-steps.rest.now read c.requires)

pub returns-in-Missing-clause-fault : goal.returns-in-Missing-clause-fault
returns-in-Missing-clause-fault c = λ n is.
    let first = c.in-Some-next_from.ensures.found in
    let steps = c.in_ok-steps.steps.items in
    let from = c.in-Some-next_from.from in
    let rest = c.in_ok-steps.rest.now in
    let read = walk_read c.args.text.now c.in-Some.rest.now c.in-Some-next_from.rest.now rest c.len.result from steps c.in-Some.ensures.found first.0 first.1 c.in_ok-steps.ensures in
    let over = subst (λ n. WalkRead c.args.text.now n from steps rest) c.len.ensures read in
    let line : 1 + (1 + length steps) + 1 ≡ n = omega (arith, named {T = WalkIn} _ n is, c.len-2.ensures, c.in_ok-steps.steps.ok.0) in
    subst (IsFaultLine (IsWalkTextOver c.args.table.now) c.args.text.now) line (no_end c.args.text.now c.args.table.now from steps rest over c.in-Missing.ensures)

pub returns-in-TextBehind-clause-fault : goal.returns-in-TextBehind-clause-fault
returns-in-TextBehind-clause-fault c = λ n is.
    let first = c.in-Some-next_from.ensures.found in
    let steps = c.in_ok-steps.steps.items in
    let from = c.in-Some-next_from.from in
    let rest = c.in_ok-steps.rest.now in
    let read = walk_read c.args.text.now c.in-Some.rest.now c.in-Some-next_from.rest.now rest c.len.result from steps c.in-Some.ensures.found first.0 first.1 c.in_ok-steps.ensures in
    let over = subst (λ n. WalkRead c.args.text.now n from steps rest) c.len.ensures read in
    let line : 1 + (1 + length steps) + 1 + 1 ≡ n = omega (arith, named {T = WalkIn} _ n is, c.len-2.ensures, c.in_ok-steps.steps.ok.0) in
    let behind = c.in-TextBehind.ensures in
    subst (IsFaultLine (IsWalkTextOver c.args.table.now) c.args.text.now) line (text_behind c.args.text.now c.args.table.now from steps rest behind.0 over behind.1 behind.2)
