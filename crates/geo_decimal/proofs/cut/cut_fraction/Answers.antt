use Rattle.std.proofs.Common.{◌==◌, arith}
use Rattle.std.proofs.lemmas.Bool.{eqb-true}
use Rattle.std.proofs.lemmas.Grind.{common_steps}
use Rattle.geo_decimal.proofs.Positions.{none_before, none_at_all, passes_at}
use Rattle.geo_decimal.proofs.cut.cut_fraction.Goals as goal

pub returns-in-Some-clause-text : goal.returns-in-Some-clause-text
returns-in-Some-clause-text c =
    let at = passes_at (λ b. b == 46) c.args.text.now c.in-Some.at c.in-Some.ensures in
    let point = eqb-true _ _ at.1 in
    grind (arith, common_steps, at.0, point)

pub returns-in-Some-clause-front : goal.returns-in-Some-clause-front
returns-in-Some-clause-front c = none_before (λ b. b == 46) c.args.text.now c.in-Some.at c.in-Some.ensures

pub returns-in-None-clause-front : goal.returns-in-None-clause-front
returns-in-None-clause-front c = none_at_all (λ b. b == 46) c.args.text.now c.in-None.ensures
