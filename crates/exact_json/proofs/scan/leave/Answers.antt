use Rattle.std.proofs.Common.{◌≡◌, ◌≢◌, false, sym, subst, arith}
use Rattle.exact_json.specs.Number.{head}
use Rattle.exact_json.specs.Kinds.{closing}
use Rattle.exact_json.specs.Scanning.{Scanning}
use Rattle.exact_json.proofs.Scans.{all_passed, passed_comma, no_element_behind, passed_close, passed_neither}
use Rattle.exact_json.proofs.scan.leave.Goals as goal

pub returns-in_default-clause-passed : goal.returns-in_default-clause-passed
returns-in_default-clause-passed c = λ all i. all_passed all c.loop-kind.rest.now c.loop-kind.kinds c.in_default.ensures (c.loop-kind.invariant.0 all i)

pub returns-in_default-element_value-clause-passed : goal.returns-in_default-element_value-clause-passed
returns-in_default-element_value-clause-passed c = λ all i.
    let m = c.skip_spaces-mark.result.now in
    let comma : head m ≡ 44 = grind arith in
    no_element_behind all c.loop-kind.rest.now m c.after.result.now c.in-Some.kind c.loop-kind.kinds c.in-Some.ensures (c.loop-kind.invariant.0 all i) c.skip_spaces-mark.ensures.value c.skip_spaces-mark.ensures.within comma c.after.ensures.value c.after.ensures.len
    c.in_default-element_value.ensures.value

pub returns-then-byte-eq44-clause-passed : goal.returns-then-byte-eq44-clause-passed
returns-then-byte-eq44-clause-passed c = λ all i.
    let m = c.skip_spaces-mark.result.now in
    let comma : head m ≡ 44 = grind arith in
    passed_comma all c.loop-kind.rest.now m c.after.result.now c.in-Some-element_value.start.now c.in-Some.kind c.loop-kind.kinds c.in-Some.ensures (c.loop-kind.invariant.0 all i) c.skip_spaces-mark.ensures.value c.skip_spaces-mark.ensures.within comma c.after.ensures.value
    c.after.ensures.len c.in-Some-element_value.ensures.value c.in-Some-element_value.ensures.within

pub returns-then-byte-closing-clause-passed : goal.returns-then-byte-closing-clause-passed
returns-then-byte-closing-clause-passed c = λ all i.
    let m = c.skip_spaces-mark.result.now in
    let nc : head m ≢ 44 = grind arith in
    let nb : head m ≢ closing c.in-Some.kind = grind arith in
    passed_neither all c.loop-kind.rest.now m c.in-Some.kind c.loop-kind.kinds c.in-Some.ensures (c.loop-kind.invariant.0 all i) c.skip_spaces-mark.ensures.value nc nb

pub loop-kind-preserved : goal.loop-kind-preserved
loop-kind-preserved c =
    let m = c.skip_spaces-mark.result.now in
    let close : head m ≡ closing c.in-Some.kind = grind arith in
    let rest = c.after-rest.result.now in (
      (λ all i.
          subst (λ ks. Scanning all ks false rest) (sym c.close.ensures)
          (passed_close all c.loop-kind.rest.now m rest c.in-Some.kind c.loop-kind.kinds c.in-Some.ensures (c.loop-kind.invariant.0 all i) c.skip_spaces-mark.ensures.value c.skip_spaces-mark.ensures.within close c.after-rest.ensures.value c.after-rest.ensures.len)),
      omega arith,
    )
