use Rattle.std.proofs.Common.{◌≡◌, ◌≢◌, ◌∷◌, true, sym, subst, arith, rules}
use Rattle.exact_json.specs.Number.{head}
use Rattle.exact_json.specs.Kinds.{opening, closing}
use Rattle.exact_json.specs.Scanning.{Scanning, Enters}
use Rattle.exact_json.proofs.Scans.{begun, not_begun, passed_empty, scalar_entered}
use Rattle.exact_json.proofs.scan.enter.Goals as goal

pub returns-in_default-clause-passed : goal.returns-in_default-clause-passed
returns-in_default-clause-passed c = λ all i.
    subst (Enters all c.loop-kind.kinds) (sym c.ok_or.ensures.value)
    (scalar_entered all c.loop-kind.rest.now c.loop-kind.kinds c.pass_scalar.result (c.loop-kind.invariant.0 all i) c.in_default.ensures c.pass_scalar.ensures.value c.pass_scalar.ensures.within)

pub returns-then-byte_at-closing-clause-passed : goal.returns-then-byte_at-closing-clause-passed
returns-then-byte_at-closing-clause-passed c = λ all i.
    let b = c.loop-kind.rest.now in
    let s = c.skip_spaces-inside.result.now in
    let k = c.in-Some.kind in
    let h : head b ≡ opening k = c.in-Some.ensures in
    let close : head s ≡ closing k = grind arith in
    passed_empty all b c.after.result.now s c.after-then-byte_at-closing.result.now k c.loop-kind.kinds (c.loop-kind.invariant.0 all i) h c.after.ensures.value c.after.ensures.len c.skip_spaces-inside.ensures.value c.skip_spaces-inside.ensures.within close
    c.after-then-byte_at-closing.ensures.value c.after-then-byte_at-closing.ensures.len

pub returns-in_default-element_value-clause-passed : goal.returns-in_default-element_value-clause-passed
returns-in_default-element_value-clause-passed c = λ all i.
    let b = c.loop-kind.rest.now in
    let s = c.skip_spaces-inside.result.now in
    let k = c.in-Some.kind in
    let h : head b ≡ opening k = c.in-Some.ensures in
    let ne : head s ≢ closing k = grind arith in
    not_begun all b c.after.result.now s k c.loop-kind.kinds (c.loop-kind.invariant.0 all i) h c.after.ensures.value c.skip_spaces-inside.ensures.value ne c.in_default-element_value.ensures.value

pub loop-kind-preserved : goal.loop-kind-preserved
loop-kind-preserved c =
    let b = c.loop-kind.rest.now in
    let s = c.skip_spaces-inside.result.now in
    let k = c.in-Some.kind in
    let h : head b ≡ opening k = c.in-Some.ensures in
    let ne : head s ≢ closing k = grind arith in
    let start = c.in-Some-element_value.start.now in
    let grown : c.open.new.self ≡ k ∷ c.loop-kind.kinds = search rules in (
      (λ all i.
          subst (λ ks. Scanning all ks true start) (sym grown)
          (begun all b c.after.result.now s start k c.loop-kind.kinds (c.loop-kind.invariant.0 all i) h c.after.ensures.value c.after.ensures.len c.skip_spaces-inside.ensures.value c.skip_spaces-inside.ensures.within ne c.in-Some-element_value.ensures.value c.in-Some-element_value.ensures.within)),
      omega (arith, c.in-Some-element_value.ensures.within, c.loop-kind.invariant.1),
    )
