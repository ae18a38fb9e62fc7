use Rattle.imdf_schema.specs.Values.{seen}
use Rattle.imdf_rows.proofs.Billionths.{some_ordinal, none_ordinal, no_ordinal}
use Rattle.imdf_rows.proofs.ordinals.ordinal.Goals as goal

pub returns-in-Some-clause-some : goal.returns-in-Some-clause-some
returns-in-Some-clause-some c = some_ordinal (seen c.args.value) c.in-Some.token.now c.token_ordinal.result c.in-Some.ensures c.token_ordinal.ensures.some

pub returns-in-Some-clause-none : goal.returns-in-Some-clause-none
returns-in-Some-clause-none c = none_ordinal (seen c.args.value) c.in-Some.token.now c.token_ordinal.result c.in-Some.ensures c.token_ordinal.ensures.none

pub returns-in-None-clause-none : goal.returns-in-None-clause-none
returns-in-None-clause-none c = no_ordinal (seen c.args.value) c.in-None.ensures
