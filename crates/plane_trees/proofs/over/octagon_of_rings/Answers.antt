use Rattle.std.proofs.Common.{List, sym, subst}
use Rattle.std.proofs.lemmas.List.{take_all}
use Rattle.venue_types.specs.declared.point.Ring.{Ring}
use Rattle.plane_exact.specs.Figure.{ring_points}
use Rattle.plane_trees.specs.Octagons.{IsRound}
use Rattle.plane_exact.proofs.NearbyLemmas.{item_close, items_step}
use Rattle.plane_trees.proofs.GroveLemmas.{rings_more}
use Rattle.plane_trees.proofs.over.octagon_of_rings.Goals as goal

pub octagon-requires : goal.octagon-requires
octagon-requires c = item_close (λ (ring : Ring). ring.points) c.args.origin c.args.rings.now c.loop-ring.ring-index _ _ c.loop-ring-test.true (sym c.ring-item.is) c.loop-ring.invariant.close

pub loop-ring-preserved : goal.loop-ring-preserved
loop-ring-preserved c = record {
  close = items_step (λ (ring : Ring). ring.points) c.args.origin c.args.rings.now c.loop-ring.ring-index _ _ c.loop-ring-test.true (sym c.ring-item.is) c.loop-ring.invariant.close;
  round = rings_more c.loop-ring.octagon c.octagon.result c.with-octagon.result c.args.origin c.args.rings.now c.loop-ring.ring-index _ _ c.loop-ring-test.true (sym c.ring-item.is) c.octagon.ensures c.with-octagon.ensures.first c.with-octagon.ensures.second c.loop-ring.invariant.round;
}

pub returns : goal.returns
returns c = subst (λ (xs : List Ring). IsRound c.loop-ring.octagon c.args.origin (ring_points xs)) (take_all c.loop-ring.ring-index c.args.rings.now c.loop-ring-test.false) c.loop-ring.invariant.round
