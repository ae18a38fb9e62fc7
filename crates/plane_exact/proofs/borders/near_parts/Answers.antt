use Rattle.std.proofs.Common.{refl, sym}
use Rattle.std.proofs.lemmas.Bool.{false≢true}
use Rattle.plane_exact.specs.Figure.{part_edges, part_points}
use Rattle.plane_exact.proofs.BorderLemmas.{items_here, items_past}
use Rattle.plane_exact.proofs.SegmentLemmas.{iff_along}
use Rattle.plane_exact.proofs.NearbyLemmas.{item_close, items_step}
use Rattle.plane_exact.proofs.borders.near_parts.Goals as goal

pub near_part-requires-clause-close : goal.near_part-requires-clause-close
near_part-requires-clause-close c = item_close part_points c.args.p c.args.parts.now c.loop-part.part-index _ _ c.loop-part-test.true (sym c.part-item.is) c.loop-part.invariant.close

pub returns-then-near_part : goal.returns-then-near_part
returns-then-near_part c =
    let here = items_here part_edges c.args.p c.args.t c.args.parts.now c.loop-part.part-index _ _ c.loop-part-test.true (sym c.part-item.is) (c.if-near_part.ensures.0 refl) in
    (λ _. c.loop-part.invariant.ahead.0 here, λ _. refl)

pub loop-part-preserved : goal.loop-part-preserved
loop-part-preserved c = record {
  close = items_step part_points c.args.p c.args.parts.now c.loop-part.part-index _ _ c.loop-part-test.true (sym c.part-item.is) c.loop-part.invariant.close;
  ahead = iff_along (items_past part_edges c.args.p c.args.t c.args.parts.now c.loop-part.part-index _ _ c.loop-part-test.true (sym c.part-item.is) (λ h. false≢true (c.if-near_part.ensures.1 h))) c.loop-part.invariant.ahead;
}
