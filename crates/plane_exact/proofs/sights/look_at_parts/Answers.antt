use Rattle.std.proofs.Common.{sym}
use Rattle.plane_exact.specs.Figure.{part_edges, part_points}
use Rattle.plane_exact.proofs.LookLemmas.{items_start, items_look, items_whole, fits_item, fits_items}
use Rattle.plane_exact.proofs.sights.look_at_parts.Goals as goal

pub look_at_part-requires : goal.look_at_part-requires
look_at_part-requires c = fits_item part_points c.args.way c.args.parts.now c.loop-part.part-index _ _ c.loop-part-test.true (sym c.part-item.is) c.loop-part.invariant.fits

pub loop-part-init : goal.loop-part-init
loop-part-init c = record { fits = c.requires; told = items_start c.args.way _ _ _ c.blank-look.ensures }

pub loop-part-preserved : goal.loop-part-preserved
loop-part-preserved c = record {
  fits = fits_items part_points c.args.way c.args.parts.now c.loop-part.part-index _ _ c.loop-part-test.true (sym c.part-item.is) c.loop-part.invariant.fits;
  told = items_look part_edges part_points c.args.way c.args.parts.now c.loop-part.part-index _ _ c.loop-part.look _ _ _ c.loop-part-test.true (sym c.part-item.is) c.look_at_part.ensures c.joined-look.ensures c.loop-part.invariant.told;
}

pub returns : goal.returns
returns c = items_whole part_edges part_points c.args.way c.args.parts.now c.loop-part.part-index c.loop-part.look _ c.loop-part-test.false c.loop-part.invariant.told
