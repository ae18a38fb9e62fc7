use Rattle.std.proofs.Common.{List, refl, sym, subst}
use Rattle.std.proofs.lemmas.Bool.{false≢true}
use Rattle.venue_types.proofs.Items.{Contains-flat_map}
use Rattle.venue_types.specs.declared.point.Point.{Point}
use Rattle.venue_types.specs.declared.point.Ring.{Ring}
use Rattle.plane_exact.specs.Figure.{ring_points}
use Rattle.plane_exact.proofs.SegmentLemmas.{iff_along}
use Rattle.contain_rules.specs.Rules.{IsHeld}
use Rattle.contain_rules.specs.Judging.{AreBeside, SomeLeaves}
use Rattle.contain_rules.proofs.Closeness.{beside_fewer}
use Rattle.contain_rules.proofs.Lists.{at_place, all_here, all_past}
use Rattle.contain_rules.proofs.outside_positions.rings_leave.Goals as goal

pub some_leaves-requires-clause-close : goal.some_leaves-requires-clause-close
some_leaves-requires-clause-close c =
    let ring = c.ring-item.result in
    let rings = c.args.rings.now in
    subst (λ (points : List Point). AreBeside c.args.shape.now points) (sym c.as_slice.ensures)
    (beside_fewer c.args.shape.now ring.points (ring_points rings) c.requires.close
    (λ p h. (Contains-flat_map (λ (r : Ring). r.points) rings p).1 (ring, (at_place rings c.loop-ring.ring-index ring c.loop-ring-test.true c.ring-item.is), h)))

pub returns-then-some_leaves : goal.returns-then-some_leaves
returns-then-some_leaves c =
    let ring = c.ring-item.result in
    let leaves = subst (λ (points : List Point). SomeLeaves c.args.tolerance c.args.shape.now points) c.as_slice.ensures (c.if-some_leaves.ensures.0 refl) in
    let one = all_here (λ p. ¬ IsHeld c.args.tolerance c.args.shape.now p) (λ (r : Ring). r.points) c.args.rings.now c.loop-ring.ring-index ring ring c.loop-ring-test.true (sym c.ring-item.is) leaves in
    (λ _. c.loop-ring.invariant.0 one, λ _. refl)

pub loop-ring-preserved : goal.loop-ring-preserved
loop-ring-preserved c =
    let ring = c.ring-item.result in
    iff_along (all_past (λ p. ¬ IsHeld c.args.tolerance c.args.shape.now p) (λ (r : Ring). r.points) c.args.rings.now c.loop-ring.ring-index ring ring c.loop-ring-test.true (sym c.ring-item.is)
    (λ h. false≢true (c.if-some_leaves.ensures.1 (subst (λ (points : List Point). SomeLeaves c.args.tolerance c.args.shape.now points) (sym c.as_slice.ensures) h))))
    c.loop-ring.invariant
