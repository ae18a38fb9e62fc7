use Rattle.std.proofs.Common.{List, sym, subst}
use Rattle.venue_types.specs.declared.point.Point.{Point}
use Rattle.feature_rows.specs.Figures.{display_of}
use Rattle.ring_rules.specs.Bounds.{AreBounds}
use Rattle.ring_rules.proofs.BoundsLemmas.{flat_map_step}
use Rattle.ring_rules.proofs.spread.bounds_of_displays.Goals as goal

pub loop-unit-preserved : goal.loop-unit-preserved
loop-unit-preserved c =
    subst (λ (points : List Point). AreBounds points c.join-bounds.result)
    (sym (flat_map_step display_of c.args.units.now c.loop-unit.unit-index c.unit-item.result c.loop-unit-test.true c.unit-item.is))
    (c.join-bounds.ensures _ _ c.loop-unit.invariant c.bounds_of_display.ensures)
