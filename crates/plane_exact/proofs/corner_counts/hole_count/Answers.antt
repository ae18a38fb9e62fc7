use Rattle.std.proofs.Common.{◌≡◌, neg_ℤ, length, to_z, of_z, ap, sym, ◌∙◌, rules}
use mir.Syntax.{w128}
use Rattle.std.proofs.lemmas.Int.{to_z-of_z}
use Rattle.venue_types.specs.declared.point.Ring.{Ring}
use Rattle.plane_exact.specs.Corners.{doubled_area, hole_corners, ring_corners}
use Rattle.plane_exact.proofs.ListLemmas.{count_step}
use Rattle.plane_exact.proofs.NearbyLemmas.{plain_item, plain_step}
use Rattle.plane_exact.proofs.corner_counts.hole_count.Goals as goal

pub turned_area-requires : goal.turned_area-requires
turned_area-requires c = plain_item (λ (ring : Ring). ring.points) c.args.holes.now c.loop-hole.hole-index _ _ c.loop-hole-test.true (sym c.hole-item.is) c.loop-hole.invariant.near

pub ring_count-count-requires-clause-near : goal.ring_count-count-requires-clause-near
ring_count-count-requires-clause-near c = plain_item (λ (ring : Ring). ring.points) c.args.holes.now c.loop-hole.hole-index _ _ c.loop-hole-test.true (sym c.hole-item.is) c.loop-hole.invariant.near

pub loop-hole-preserved : goal.loop-hole-preserved
loop-hole-preserved c =
    let hole = c.hole-item.result in
    let read : to_z w128 (of_z w128 c.turned_area.result) ≡ neg_ℤ (doubled_area hole) = to_z-of_z w128 _ (search rules) ∙ c.turned_area.ensures in
    let counted = c.ring_count-count.ensures ∙ ap (λ area. length (ring_corners area hole)) read in
    record {
      near = plain_step (λ (ring : Ring). ring.points) c.args.holes.now c.loop-hole.hole-index _ _ c.loop-hole-test.true (sym c.hole-item.is) c.loop-hole.invariant.near;
      whole = count_step hole_corners c.loop-hole.count _ _ c.args.holes.now c.loop-hole.hole-index _ _ c.loop-hole-test.true (sym c.hole-item.is) counted c.loop-hole.invariant.whole;
    }
