use Rattle.std.proofs.Common.{flat_map, take}
use Rattle.feature_rows.specs.Figures.{display_of}
use Rattle.ring_rules.specs.Bounds.{AreBounds}
use Rattle.ring_rules.proofs.spread.bounds_of_displays.Given as goal

-- the bounds of the units' display points before
abbrev pub invariant-loop-unit : goal.invariant-loop-unit
invariant-loop-unit l = AreBounds (flat_map display_of (take l.unit-index l.units)) l.bounds
