use Rattle.std.proofs.Common.{sym}
use Rattle.venue_types.specs.declared.point.Ring.{Ring}
use Rattle.plane_exact.specs.Figure.{edges}
use Rattle.plane_exact.proofs.LookLemmas.{items_start, items_look, items_whole, fits_item, fits_items}
use Rattle.plane_exact.proofs.sights.look_at_rings.Goals as goal

pub look_at_ring-requires : goal.look_at_ring-requires
look_at_ring-requires c = fits_item (λ (ring : Ring). ring.points) c.args.way c.args.rings.now c.loop-ring.ring-index _ _ c.loop-ring-test.true (sym c.ring-item.is) c.loop-ring.invariant.fits

pub loop-ring-init : goal.loop-ring-init
loop-ring-init c = record { fits = c.requires; told = items_start c.args.way _ _ _ c.blank-look.ensures }

pub loop-ring-preserved : goal.loop-ring-preserved
loop-ring-preserved c = record {
  fits = fits_items (λ (ring : Ring). ring.points) c.args.way c.args.rings.now c.loop-ring.ring-index _ _ c.loop-ring-test.true (sym c.ring-item.is) c.loop-ring.invariant.fits;
  told = items_look (λ (ring : Ring). edges ring.points) (λ (ring : Ring). ring.points) c.args.way c.args.rings.now c.loop-ring.ring-index _ _ c.loop-ring.look _ _ _ c.loop-ring-test.true (sym c.ring-item.is) c.look_at_ring.ensures c.joined-look.ensures c.loop-ring.invariant.told;
}

pub returns : goal.returns
returns c = items_whole (λ (ring : Ring). edges ring.points) (λ (ring : Ring). ring.points) c.args.way c.args.rings.now c.loop-ring.ring-index c.loop-ring.look _ c.loop-ring-test.false c.loop-ring.invariant.told
