use Rattle.std.proofs.Common.{FitsSigned, w64, arith, rules}
use Rattle.std.proofs.lemmas.Int.{ints}
use Rattle.opening_match.proofs.Growing.{within_wider}
use Rattle.opening_match.proofs.extents.Extent.with.Goals as goal

pub returns-clause-first : goal.returns-clause-first
returns-clause-first c =
    let west : FitsSigned w64 c.min-2.result = search rules in
    let east : FitsSigned w64 c.max-2.result = search rules in
    let south : FitsSigned w64 c.min-3.result = search rules in
    let north : FitsSigned w64 c.max-3.result = search rules in
    let a = c.min-2.ensures.self_bound in
    let b = c.max-2.ensures.self_bound in
    let d = c.min-3.ensures.self_bound in
    let e = c.max-3.ensures.self_bound in
    λ entry. within_wider c.args.self _ entry (record {
      least = omega (arith, c.min.ensures);
      greatest = omega (arith, c.max.ensures);
      west = omega (arith, ints);
      east = omega (arith, ints);
      south = omega (arith, ints);
      north = omega (arith, ints);
    })

pub returns-clause-second : goal.returns-clause-second
returns-clause-second c =
    let west : FitsSigned w64 c.min-2.result = search rules in
    let east : FitsSigned w64 c.max-2.result = search rules in
    let south : FitsSigned w64 c.min-3.result = search rules in
    let north : FitsSigned w64 c.max-3.result = search rules in
    let a = c.min-2.ensures.other_bound in
    let b = c.max-2.ensures.other_bound in
    let d = c.min-3.ensures.other_bound in
    let e = c.max-3.ensures.other_bound in
    λ entry. within_wider c.args.other _ entry (record {
      least = omega (arith, c.min.ensures);
      greatest = omega (arith, c.max.ensures);
      west = omega (arith, ints);
      east = omega (arith, ints);
      south = omega (arith, ints);
      north = omega (arith, ints);
    })
