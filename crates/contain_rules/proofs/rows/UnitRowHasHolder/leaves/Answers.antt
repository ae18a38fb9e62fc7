use Rattle.std.proofs.Common.{◌↔◌, IsTrue, sym, subst}
use Rattle.venue_types.specs.declared.point.Shape.{Shape}
use Rattle.plane_exact.specs.Figure.{vertices}
use Rattle.plane_exact.proofs.SegmentLemmas.{iff_along}
use Rattle.contain_rules.specs.Judging.{AreBeside, SomeLeaves}
use Rattle.contain_rules.specs.Rules.{UnitLeaves}
use Rattle.contain_rules.proofs.RowRules.{unit_rule, no_level_of_unit, never}
use Rattle.contain_rules.proofs.rows.UnitRowHasHolder.leaves.Goals as goal

pub figure_leaves-requires-clause-close : goal.figure_leaves-requires-clause-close
figure_leaves-requires-clause-close c =
    let row = c.in-Some.field-0-0.now in
    let level = c.in-Some.ensures.0 in
    subst (λ (shape : Shape). AreBeside shape (vertices c.args.self.now.shape)) (sym c.in-Some.ensures.1)
    (record { beside = λ p h. c.unit_vertex_law.ensures.level c.args.features.now c.args.self.now p c.args.self.now.level row c.requires.ready.close c.requires.own h (record { has = level.has; named = level.named }) })

pub returns-in-Some : goal.returns-in-Some
returns-in-Some c =
    iff_along (subst (λ (shape : Shape). IsTrue c.figure_leaves.result ↔ SomeLeaves c.args.tolerance shape (vertices c.args.self.now.shape)) c.in-Some.ensures.1 c.figure_leaves.ensures)
    (unit_rule c.args.features.now c.args.tolerance c.args.self.now c.in-Some.field-0-0.now c.in-Some.ensures.0)

pub returns-in-None : goal.returns-in-None
returns-in-None c = never (UnitLeaves c.args.features.now c.args.tolerance c.args.self.now) (no_level_of_unit c.args.features.now c.args.tolerance c.args.self.now c.in-None.ensures)
