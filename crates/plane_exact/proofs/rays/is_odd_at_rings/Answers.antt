use Rattle.std.proofs.Common.{sym, ◌∙◌}
use Rattle.std.proofs.lemmas.Bool.{false≢true}
use Rattle.venue_types.specs.declared.point.Ring.{Ring}
use Rattle.plane_exact.specs.Figure.{edges}
use Rattle.plane_exact.proofs.NearbyLemmas.{item_close, items_step}
use Rattle.plane_exact.proofs.ParityLemmas.{items_odd, items_even}
use Rattle.plane_exact.proofs.rays.is_odd_at_rings.Goals as goal
use Rattle.plane_exact.proofs.rays.is_odd_at_rings.Goals.{then-inside_ring, else-inside_ring}

pub inside_ring-requires : goal.inside_ring-requires
inside_ring-requires c = item_close (λ (ring : Ring). ring.points) c.args.p c.args.rings.now c.loop-ring.ring-index _ _ c.loop-ring-test.true (sym c.ring-item.is) c.loop-ring.invariant.close

pub loop-ring-preserved : goal.loop-ring-preserved
loop-ring-preserved c = record {
  close = items_step (λ (ring : Ring). ring.points) c.args.p c.args.rings.now c.loop-ring.ring-index _ _ c.loop-ring-test.true (sym c.ring-item.is) c.loop-ring.invariant.close;
  parity = elim c.if-inside_ring.branch [
    | then-inside_ring w ↦ items_odd (λ (ring : Ring). edges ring.points) c.args.p c.args.rings.now c.loop-ring.ring-index _ _ c.loop-ring.odd c.if-inside_ring.odd _ c.loop-ring-test.true (sym c.ring-item.is) (c.inside_ring.ensures.0 w.if-inside_ring.true) w.odd-is c.loop-ring.invariant.parity
    | else-inside_ring w ↦ items_even (λ (ring : Ring). edges ring.points) c.args.p c.args.rings.now c.loop-ring.ring-index _ _ c.loop-ring.odd c.if-inside_ring.odd _ c.loop-ring-test.true (sym c.ring-item.is) (λ h. false≢true (sym w.if-inside_ring.false ∙ c.inside_ring.ensures.1 h)) w.odd-is c.loop-ring.invariant.parity
  ];
}
