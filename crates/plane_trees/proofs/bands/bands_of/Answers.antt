use Rattle.std.proofs.Common.{◌≡◌, ◌++◌, List, flat_map, sym, ap, ◌∙◌, subst}
use Rattle.venue_types.specs.declared.point.Point.{Point}
use Rattle.venue_types.specs.declared.point.Ring.{Ring}
use Rattle.plane_exact.specs.Figure.{AllNearby, vertices, part_points, rings_of}
use Rattle.plane_exact.proofs.ListLemmas.{flat_map-flat_map, added_step}
use Rattle.plane_exact.proofs.NearbyLemmas.{plain_item, plain_step}
use Rattle.plane_trees.proofs.bands.bands_of.Goals as goal

pub loop-part-init : goal.loop-part-init
loop-part-init c =
    let same : flat_map part_points c.as_slice-part-items.result.now ≡ vertices c.args.shape.now = ap (flat_map part_points) c.as_slice-part-items.ensures ∙ sym (flat_map-flat_map (λ (ring : Ring). ring.points) rings_of c.args.shape.now.parts) in
    record {
      close = subst (λ (points : List Point). AllNearby points) (sym same) c.requires;
      rings = ap (λ (list : List Ring). list ++ flat_map rings_of c.as_slice-part-items.result.now) c.new-list.ensures.items;
    }

pub add_bands-requires : goal.add_bands-requires
add_bands-requires c = plain_item part_points c.as_slice-part-items.result.now c.loop-part.part-index _ _ c.loop-part-test.true (sym c.part-item.is) c.loop-part.invariant.close

pub loop-part-preserved : goal.loop-part-preserved
loop-part-preserved c = record {
  close = plain_step part_points c.as_slice-part-items.result.now c.loop-part.part-index _ _ c.loop-part-test.true (sym c.part-item.is) c.loop-part.invariant.close;
  rings = added_step rings_of c.loop-part.list.items _ _ c.as_slice-part-items.result.now c.loop-part.part-index _ _ c.loop-part-test.true (sym c.part-item.is) c.in_ok-add_bands.ensures c.loop-part.invariant.rings;
}
