use Rattle.std.proofs.Common.{List, sym, subst}
use Rattle.venue_types.specs.declared.point.Point.{Point}
use Rattle.ring_rules.specs.Bounds.{AreBounds}
use Rattle.ring_rules.proofs.BoundsLemmas.{flat_map_step}
use Rattle.ring_rules.proofs.positioned.bounds_in.Goals as goal

pub loop-item-preserved : goal.loop-item-preserved
loop-item-preserved g c =
    subst (λ (points : List Point). AreBounds points c.join-bounds.result)
    (sym (flat_map_step g.T.HasPositions.positions c.args.items.now c.loop-item.item-index c.item-item.result c.loop-item-test.true c.item-item.is))
    (c.join-bounds.ensures _ _ c.loop-item.invariant c.bounds.ensures)
