use Rattle.std.proofs.Common.{◌≡◌, arith, rules, SFits, w16}
use Rattle.std.proofs.lemmas.Int.{ints}
use Rattle.imdf_schema.specs.Values.{seen}
use Rattle.imdf_rows.proofs.Billionths.{one_ordinal}
use Rattle.imdf_rows.proofs.ordinals.ordinal_field.Goals as goal

pub returns-in-Some-clause-some : goal.returns-in-Some-clause-some
returns-in-Some-clause-some c = λ m w.
    let fits : SFits w16 c.in-Some.n = search rules in
    let same : c.in-Some.n ≡ m = one_ordinal c.one_value_law.ensures (seen c.args.value) c.in-Some.n m c.in-Some.ensures.some w in
    omega (arith, ints)

pub returns-in-None-clause-some : goal.returns-in-None-clause-some
returns-in-None-clause-some c = λ n w. absurd (c.in-None.ensures.none n w)
