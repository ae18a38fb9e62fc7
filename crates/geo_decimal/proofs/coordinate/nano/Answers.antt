use Rattle.std.proofs.Common.{refl}
use Rattle.std.proofs.lemmas.Bool.{both_ways}
use Rattle.geo_decimal.specs.Cutting.{number_of}
use Rattle.geo_decimal.proofs.Values.{not_number, none_within, some_past}
use Rattle.geo_decimal.proofs.coordinate.nano.Goals as goal

pub returns-then-not-is_well_formed-clause-form : goal.returns-then-not-is_well_formed-clause-form
returns-then-not-is_well_formed-clause-form c =
    let none = not_number c.args.token.now (number_of c.cut-parts.result) c.cut-parts.ensures.text c.cut-parts.ensures.cut (λ w. both_ways _ c.if-not-is_well_formed.true (c.is_well_formed.ensures.1 w)) in
    (λ _. none, λ _. refl)

pub returns-then-not-is_well_formed-clause-size : goal.returns-then-not-is_well_formed-clause-size
returns-then-not-is_well_formed-clause-size c =
    let none = not_number c.args.token.now (number_of c.cut-parts.result) c.cut-parts.ensures.text c.cut-parts.ensures.cut (λ w. both_ways _ c.if-not-is_well_formed.true (c.is_well_formed.ensures.1 w)) in
    (λ e. absurd (cc e), λ (n, value, past). absurd (none (value.number, value.spelled)))

pub returns-in-Some-clause-size : goal.returns-in-Some-clause-size
returns-in-Some-clause-size c =
    let none = none_within c.args.token.now (number_of c.cut-parts.result) c.in-Some.size c.with_sign.result c.cut-parts.ensures.text (c.is_well_formed.ensures.0 c.if-not-is_well_formed.false) c.in-Some.ensures.found.0 c.in-Some.ensures.found.1 c.with_sign.ensures in
    (λ e. absurd (cc e), λ other. absurd (none other))

pub returns-in-None-clause-size : goal.returns-in-None-clause-size
returns-in-None-clause-size c =
    let past = some_past c.args.token.now (number_of c.cut-parts.result) c.cut-parts.ensures.text (c.is_well_formed.ensures.0 c.if-not-is_well_formed.false) c.in-None.ensures.none in
    (λ _. past, λ _. refl)
