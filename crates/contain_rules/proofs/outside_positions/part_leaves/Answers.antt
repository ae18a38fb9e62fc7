use Rattle.std.proofs.Common.{◌↔◌, IsTrue, List, sym, subst}
use Rattle.std.proofs.lemmas.Bool.{false≢true}
use Rattle.std.proofs.lemmas.List.Elements.{Contains-append_right}
use Rattle.venue_types.specs.declared.point.Point.{Point}
use Rattle.venue_types.specs.declared.point.Ring.{Ring}
use Rattle.plane_exact.specs.Figure.{part_points, ring_points}
use Rattle.plane_exact.proofs.ListLemmas.{any_past_all}
use Rattle.plane_exact.proofs.SegmentLemmas.{iff_along}
use Rattle.contain_rules.specs.Rules.{IsHeld}
use Rattle.contain_rules.specs.Judging.{AreBeside, SomeLeaves}
use Rattle.contain_rules.proofs.Closeness.{beside_fewer}
use Rattle.contain_rules.proofs.outside_positions.part_leaves.Goals as goal

pub rings_leave-requires-clause-close : goal.rings_leave-requires-clause-close
rings_leave-requires-clause-close c =
    let part = c.args.part.now in
    subst (λ (rings : List Ring). AreBeside c.args.shape.now (ring_points rings)) (sym c.as_slice-else-some_leaves.ensures)
    (beside_fewer c.args.shape.now (ring_points part.holes) (part_points part) c.requires.close (λ p h. Contains-append_right part.outer.points (ring_points part.holes) p h))

pub returns-else-some_leaves : goal.returns-else-some_leaves
returns-else-some_leaves c =
    let part = c.args.part.now in
    iff_along (subst (λ (rings : List Ring). IsTrue c.rings_leave.result ↔ SomeLeaves c.args.tolerance c.args.shape.now (ring_points rings)) c.as_slice-else-some_leaves.ensures c.rings_leave.ensures)
    (any_past_all (λ p. ¬ IsHeld c.args.tolerance c.args.shape.now p) part.outer.points (ring_points part.holes)
    (λ h. false≢true (c.if-some_leaves.ensures.1 (subst (λ (points : List Point). SomeLeaves c.args.tolerance c.args.shape.now points) (sym c.as_slice.ensures) h))))
