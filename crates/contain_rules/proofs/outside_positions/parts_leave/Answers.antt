use Rattle.std.proofs.Common.{refl, sym}
use Rattle.std.proofs.lemmas.Bool.{false≢true}
use Rattle.plane_exact.specs.Figure.{part_points}
use Rattle.std.proofs.Common.{flat_map}
use Rattle.venue_types.proofs.Items.{Contains-flat_map}
use Rattle.plane_exact.proofs.SegmentLemmas.{iff_along}
use Rattle.contain_rules.specs.Rules.{IsHeld}
use Rattle.contain_rules.proofs.Closeness.{beside_fewer}
use Rattle.contain_rules.proofs.Lists.{at_place, all_here, all_past}
use Rattle.contain_rules.proofs.outside_positions.parts_leave.Goals as goal

pub part_leaves-requires-clause-close : goal.part_leaves-requires-clause-close
part_leaves-requires-clause-close c =
    let part = c.part-item.result in
    let parts = c.args.parts.now in
    beside_fewer c.args.shape.now (part_points part) (flat_map part_points parts) c.requires.close
    (λ p h. (Contains-flat_map part_points parts p).1 (part, (at_place parts c.loop-part.part-index part c.loop-part-test.true c.part-item.is), h))

pub returns-then-part_leaves : goal.returns-then-part_leaves
returns-then-part_leaves c =
    let part = c.part-item.result in
    let one = all_here (λ p. ¬ IsHeld c.args.tolerance c.args.shape.now p) part_points c.args.parts.now c.loop-part.part-index part part c.loop-part-test.true (sym c.part-item.is) (c.if-part_leaves.ensures.0 refl) in
    (λ _. c.loop-part.invariant.0 one, λ _. refl)

pub loop-part-preserved : goal.loop-part-preserved
loop-part-preserved c =
    let part = c.part-item.result in
    iff_along (all_past (λ p. ¬ IsHeld c.args.tolerance c.args.shape.now p) part_points c.args.parts.now c.loop-part.part-index part part c.loop-part-test.true (sym c.part-item.is)
    (λ h. false≢true (c.if-part_leaves.ensures.1 h)))
    c.loop-part.invariant
