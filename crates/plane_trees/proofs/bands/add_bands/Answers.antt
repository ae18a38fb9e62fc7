use Rattle.std.proofs.Common.{refl, sym, subst, List}
use Rattle.venue_types.specs.declared.point.Ring.{Ring}
use Rattle.plane_exact.specs.Figure.{AllNearby, ring_points}
use Rattle.plane_exact.proofs.ListLemmas.{pushed_step}
use Rattle.plane_exact.proofs.NearbyLemmas.{plain_left, plain_right, plain_item, plain_step}
use Rattle.plane_trees.proofs.bands.add_bands.Goals as goal

pub of-requires : goal.of-requires
of-requires c = plain_left c.args.part.now.outer.points (ring_points c.args.part.now.holes) c.requires

pub loop-hole-init : goal.loop-hole-init
loop-hole-init c = record {
  close = subst (λ (rings : List Ring). AllNearby (ring_points rings)) (sym c.as_slice-hole-items.ensures) (plain_right c.args.part.now.outer.points (ring_points c.args.part.now.holes) c.requires);
  rings = refl;
}

pub of-requires-in-loop-hole : goal.of-requires-in-loop-hole
of-requires-in-loop-hole c = plain_item (λ (ring : Ring). ring.points) c.as_slice-hole-items.result.now c.loop-hole.hole-index _ _ c.loop-hole-test.true (sym c.hole-item.is) c.loop-hole.invariant.close

pub loop-hole-preserved : goal.loop-hole-preserved
loop-hole-preserved c = record {
  close = plain_step (λ (ring : Ring). ring.points) c.as_slice-hole-items.result.now c.loop-hole.hole-index _ _ c.loop-hole-test.true (sym c.hole-item.is) c.loop-hole.invariant.close;
  rings = pushed_step c.loop-hole.list.items _ c.as_slice-hole-items.result.now _ c.loop-hole.hole-index _ _ _ c.loop-hole-test.true (sym c.hole-item.is) c.in_ok-of-2.ensures c.in_ok-push-2.ensures.items c.loop-hole.invariant.rings;
}
