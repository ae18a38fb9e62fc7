use Rattle.std.proofs.Common.{refl}
use Rattle.std.proofs.lemmas.Bool.{false≢true}
use Rattle.plane_exact.proofs.SegmentLemmas.{iff_along}
use Rattle.ring_rules.specs.Judged.{IsOutside}
use Rattle.ring_rules.proofs.EdgeLemmas.{contains_at, one_and_others, item_here, item_past}
use Rattle.ring_rules.proofs.holes.has_outside.Goals as goal

pub is_outside-requires : goal.is_outside-requires
is_outside-requires c = one_and_others c.args.points.now c.args.ring.now.points _ (contains_at c.args.points.now c.loop-p.p-index _ c.loop-p-test.true) c.requires

pub returns-then-is_outside : goal.returns-then-is_outside
returns-then-is_outside c =
    let here = item_here (IsOutside c.args.ring.now) c.args.points.now c.loop-p.p-index _ c.loop-p-test.true (c.if-is_outside.ensures.0 refl) in
    (λ _. c.loop-p.invariant.0 here, λ _. refl)

pub loop-p-preserved : goal.loop-p-preserved
loop-p-preserved c =
    iff_along (item_past (IsOutside c.args.ring.now) c.args.points.now c.loop-p.p-index _ c.loop-p-test.true (λ h. false≢true (c.if-is_outside.ensures.1 h))) c.loop-p.invariant
