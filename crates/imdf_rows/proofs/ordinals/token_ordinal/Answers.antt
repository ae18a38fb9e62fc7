use Rattle.std.proofs.Common.{◌≡◌, arith, rules, SFits, w64, to_z, of_z}
use Rattle.std.proofs.lemmas.Int.{ints}
use Rattle.imdf_rows.proofs.Billionths.{some_whole, none_whole, err_whole}
use Rattle.imdf_rows.proofs.ordinals.token_ordinal.Goals as goal

pub returns-in-Ok-clause-some : goal.returns-in-Ok-clause-some
returns-in-Ok-clause-some c =
    let nano = c.in-Ok.nano in
    let fits : SFits w64 nano = search rules in
    let same : to_z w64 (of_z w64 nano) ≡ nano = omega (arith, ints) in
    some_whole c.args.token.now nano (to_z w64 (of_z w64 nano)) c.whole.result same c.in-Ok.ensures.value.0 c.in-Ok.ensures.value.1 c.whole.ensures.some

pub returns-in-Ok-clause-none : goal.returns-in-Ok-clause-none
returns-in-Ok-clause-none c =
    let nano = c.in-Ok.nano in
    let fits : SFits w64 nano = search rules in
    let same : to_z w64 (of_z w64 nano) ≡ nano = omega (arith, ints) in
    none_whole c.one_value_law.ensures c.args.token.now nano (to_z w64 (of_z w64 nano)) c.whole.result same c.in-Ok.ensures.value.0 c.whole.ensures.none

pub returns-in-Err-clause-none : goal.returns-in-Err-clause-none
returns-in-Err-clause-none c = err_whole c.one_value_law.ensures c.args.token.now c.in-Err.field-0 c.in-Err.ensures.form c.in-Err.ensures.size
