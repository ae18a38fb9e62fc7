use Rattle.std.proofs.Common.{FitsSigned, w64, arith, rules}
use Rattle.std.proofs.lemmas.Int.{ints}
use Rattle.opening_match.proofs.Framing.{with_one}
use Rattle.opening_match.proofs.frame.Frame.with.Goals as goal

pub returns : goal.returns
returns c =
    let west : FitsSigned w64 c.min.result = search rules in
    let east : FitsSigned w64 c.max.result = search rules in
    let south : FitsSigned w64 c.min-2.result = search rules in
    let north : FitsSigned w64 c.max-2.result = search rules in
    let a = c.min.ensures.self_bound in
    let b = c.min.ensures.other_bound in
    let d = c.max.ensures.self_bound in
    let e = c.max.ensures.other_bound in
    let f = c.min-2.ensures.self_bound in
    let g = c.min-2.ensures.other_bound in
    let h = c.max-2.ensures.self_bound in
    let i = c.max-2.ensures.other_bound in
    with_one c.args.self _ c.args.p (record {
      west = (omega (arith, ints), omega (arith, ints));
      east = (omega (arith, ints), omega (arith, ints));
      south = (omega (arith, ints), omega (arith, ints));
      north = (omega (arith, ints), omega (arith, ints));
    })
