use Rattle.std.proofs.Common.{◌↔◌, IsTrue, List, sym}
use mathlib.Core.Path.{subst₂}
use Rattle.venue_types.specs.declared.point.Point.{Point}
use Rattle.venue_types.specs.declared.point.Shape.{Shape}
use Rattle.plane_exact.proofs.SegmentLemmas.{iff_along}
use Rattle.contain_rules.specs.Rules.{OpeningLeaves}
use Rattle.contain_rules.specs.Judging.{AreBeside, SomeLeaves}
use Rattle.contain_rules.proofs.RowRules.{opening_rule, no_level_of_opening, never}
use Rattle.contain_rules.proofs.rows.OpeningRowHasHolder.leaves.Goals as goal

pub some_leaves-requires-clause-close : goal.some_leaves-requires-clause-close
some_leaves-requires-clause-close c =
    let row = c.in-Some.field-0-0.now in
    let level = c.in-Some.ensures.0 in
    subst₂ (λ (shape : Shape) (points : List Point). AreBeside shape points) (sym c.in-Some.ensures.1) (sym c.as_slice.ensures)
    (record { beside = λ p h. c.opening_point_law.ensures.level c.args.features.now c.args.self.now p c.args.self.now.level row c.requires.ready.close c.requires.own h (record { has = level.has; named = level.named }) })

pub returns-in-Some : goal.returns-in-Some
returns-in-Some c =
    iff_along (subst₂ (λ (shape : Shape) (points : List Point). IsTrue c.some_leaves.result ↔ SomeLeaves c.args.tolerance shape points) c.in-Some.ensures.1 c.as_slice.ensures c.some_leaves.ensures)
    (opening_rule c.args.features.now c.args.tolerance c.args.self.now c.in-Some.field-0-0.now c.in-Some.ensures.0)

pub returns-in-None : goal.returns-in-None
returns-in-None c = never (OpeningLeaves c.args.features.now c.args.tolerance c.args.self.now) (no_level_of_opening c.args.features.now c.args.tolerance c.args.self.now c.in-None.ensures)
