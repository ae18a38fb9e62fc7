use Rattle.std.proofs.Common.{sym, ◌∙◌}
use Rattle.std.proofs.lemmas.Bool.{false≢true}
use Rattle.plane_exact.specs.Figure.{part_points, part_edges}
use Rattle.plane_exact.proofs.NearbyLemmas.{item_close, items_step}
use Rattle.plane_exact.proofs.ParityLemmas.{items_odd, items_even}
use Rattle.plane_exact.proofs.rays.is_odd_at_parts.Goals as goal
use Rattle.plane_exact.proofs.rays.is_odd_at_parts.Goals.{then-is_odd_at_part, else-is_odd_at_part}

pub is_odd_at_part-requires : goal.is_odd_at_part-requires
is_odd_at_part-requires c = item_close part_points c.args.p c.args.parts.now c.loop-part.part-index _ _ c.loop-part-test.true (sym c.part-item.is) c.loop-part.invariant.close

pub loop-part-preserved : goal.loop-part-preserved
loop-part-preserved c = record {
  close = items_step part_points c.args.p c.args.parts.now c.loop-part.part-index _ _ c.loop-part-test.true (sym c.part-item.is) c.loop-part.invariant.close;
  parity = elim c.if-is_odd_at_part.branch [
    | then-is_odd_at_part w ↦ items_odd part_edges c.args.p c.args.parts.now c.loop-part.part-index _ _ c.loop-part.odd c.if-is_odd_at_part.odd _ c.loop-part-test.true (sym c.part-item.is) (c.is_odd_at_part.ensures.0 w.if-is_odd_at_part.true) w.odd-is c.loop-part.invariant.parity
    | else-is_odd_at_part w ↦ items_even part_edges c.args.p c.args.parts.now c.loop-part.part-index _ _ c.loop-part.odd c.if-is_odd_at_part.odd _ c.loop-part-test.true (sym c.part-item.is) (λ h. false≢true (sym w.if-is_odd_at_part.false ∙ c.is_odd_at_part.ensures.1 h)) w.odd-is c.loop-part.invariant.parity
  ];
}
