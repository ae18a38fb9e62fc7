use Rattle.std.proofs.Common.{◌∷◌, ◌↔◌, IsTrue, sym, subst}
use Rattle.venue_types.specs.declared.point.Shape.{Shape}
use Rattle.plane_exact.specs.Figure.{AllClose, vertices}
use Rattle.plane_exact.proofs.SegmentLemmas.{iff_along}
use Rattle.contain_rules.specs.Judging.{UnitHolds}
use Rattle.contain_rules.specs.Rules.{IsHeld}
use Rattle.contain_rules.proofs.RowRules.{unit_holding, no_unit_holding, never}
use Rattle.contain_rules.proofs.rows.unit_holds.Goals as goal

pub is_held-requires-clause-close : goal.is_held-requires-clause-close
is_held-requires-clause-close c =
    let row = c.in-Some.field-0-0.now in
    let unit = c.in-Some.ensures.0 in
    subst (λ (shape : Shape). AllClose (c.args.amenity.now.point ∷ vertices shape)) (sym c.in-Some.ensures.1)
    (c.amenity_point_law.ensures.unit c.args.features.now c.args.amenity.now c.args.id row c.requires.ready.close c.requires.own (record { has = unit.has; named = unit.named }))

pub returns-in-Some : goal.returns-in-Some
returns-in-Some c =
    iff_along (subst (λ (shape : Shape). IsTrue c.is_held.result ↔ IsHeld c.args.tolerance shape c.args.amenity.now.point) c.in-Some.ensures.1 c.is_held.ensures)
    (unit_holding c.args.features.now c.args.tolerance c.args.amenity.now.point c.args.id c.in-Some.field-0-0.now c.in-Some.ensures.0)

pub returns-in-None : goal.returns-in-None
returns-in-None c = never (UnitHolds c.args.features.now c.args.tolerance c.args.amenity.now.point c.args.id)
    (no_unit_holding c.args.features.now c.args.tolerance c.args.amenity.now.point c.args.id c.in-None.ensures)
