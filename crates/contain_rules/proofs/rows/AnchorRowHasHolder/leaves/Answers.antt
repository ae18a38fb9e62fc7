use Rattle.std.proofs.Common.{◌∷◌, ◌↔◌, IsTrue, sym, subst}
use Rattle.venue_types.specs.declared.point.Shape.{Shape}
use Rattle.plane_exact.specs.Figure.{AllClose, vertices}
use Rattle.contain_rules.specs.Rules.{IsHeld, AnchorLeaves}
use Rattle.contain_rules.proofs.RowRules.{anchor_rule, no_unit_of_anchor, never}
use Rattle.contain_rules.proofs.rows.AnchorRowHasHolder.leaves.Goals as goal

pub is_held-requires-clause-close : goal.is_held-requires-clause-close
is_held-requires-clause-close c =
    let row = c.in-Some.field-0-0.now in
    let unit = c.in-Some.ensures.0 in
    subst (λ (shape : Shape). AllClose (c.args.self.now.point ∷ vertices shape)) (sym c.in-Some.ensures.1)
    (c.anchor_point_law.ensures.unit c.args.features.now c.args.self.now c.args.self.now.unit row c.requires.ready.close c.requires.own (record { has = unit.has; named = unit.named }))

pub returns-in-Some : goal.returns-in-Some
returns-in-Some c = anchor_rule c.args.features.now c.args.tolerance c.args.self.now c.in-Some.field-0-0.now c.is_held.result c.in-Some.ensures.0
    (subst (λ (shape : Shape). IsTrue c.is_held.result ↔ IsHeld c.args.tolerance shape c.args.self.now.point) c.in-Some.ensures.1 c.is_held.ensures)

pub returns-in-None : goal.returns-in-None
returns-in-None c = never (AnchorLeaves c.args.features.now c.args.tolerance c.args.self.now) (no_unit_of_anchor c.args.features.now c.args.tolerance c.args.self.now c.in-None.ensures)
