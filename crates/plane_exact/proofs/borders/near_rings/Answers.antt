use Rattle.std.proofs.Common.{refl, sym}
use Rattle.std.proofs.lemmas.Bool.{false≢true}
use Rattle.venue_types.specs.declared.point.Ring.{Ring}
use Rattle.plane_exact.specs.Figure.{edges}
use Rattle.plane_exact.proofs.BorderLemmas.{items_here, items_past}
use Rattle.plane_exact.proofs.SegmentLemmas.{iff_along}
use Rattle.plane_exact.proofs.NearbyLemmas.{item_close, items_step}
use Rattle.plane_exact.proofs.borders.near_rings.Goals as goal

pub near_ring-requires-clause-close : goal.near_ring-requires-clause-close
near_ring-requires-clause-close c = item_close (λ (ring : Ring). ring.points) c.args.p c.args.rings.now c.loop-ring.ring-index _ _ c.loop-ring-test.true (sym c.ring-item.is) c.loop-ring.invariant.close

pub returns-then-near_ring : goal.returns-then-near_ring
returns-then-near_ring c =
    let here = items_here (λ (ring : Ring). edges ring.points) c.args.p c.args.t c.args.rings.now c.loop-ring.ring-index _ _ c.loop-ring-test.true (sym c.ring-item.is) (c.if-near_ring.ensures.0 refl) in
    (λ _. c.loop-ring.invariant.ahead.0 here, λ _. refl)

pub loop-ring-preserved : goal.loop-ring-preserved
loop-ring-preserved c = record {
  close = items_step (λ (ring : Ring). ring.points) c.args.p c.args.rings.now c.loop-ring.ring-index _ _ c.loop-ring-test.true (sym c.ring-item.is) c.loop-ring.invariant.close;
  ahead = iff_along (items_past (λ (ring : Ring). edges ring.points) c.args.p c.args.t c.args.rings.now c.loop-ring.ring-index _ _ c.loop-ring-test.true (sym c.ring-item.is) (λ h. false≢true (c.if-near_ring.ensures.1 h))) c.loop-ring.invariant.ahead;
}
