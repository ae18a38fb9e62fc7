use Rattle.std.proofs.Common.{FitsSigned, w64, pos, ◌+ℤ◌, ◌≤ℤ◌, arith, rules}
use Rattle.std.proofs.lemmas.Int.{ints}
use Rattle.opening_match.proofs.edges.overlap.Goals as goal

pub returns-then-is_within : goal.returns-then-is_within
returns-then-is_within c = λ n from to low high.
    let fits : FitsSigned w64 c.min.result = search rules in
    let one = c.min.ensures.self_bound in
    let other = c.min.ensures.other_bound in
    let near : c.min.result ≤ℤ (n +ℤ pos c.args.tolerance) = low c.min.result (omega (arith, ints)) (omega (arith, ints)) in
    c.is_within-then-is_within.ensures.1 (omega (arith, ints))

pub returns-else-is_within : goal.returns-else-is_within
returns-else-is_within c = λ n from to low high.
    let fits : FitsSigned w64 c.max.result = search rules in
    let one = c.max.ensures.self_bound in
    let other = c.max.ensures.other_bound in
    let near : n ≤ℤ (c.max.result +ℤ pos c.args.tolerance) = high c.max.result (omega (arith, ints)) (omega (arith, ints)) in
    c.is_within.ensures.1 (omega (arith, ints))
