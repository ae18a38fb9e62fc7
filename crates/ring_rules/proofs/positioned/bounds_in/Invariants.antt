use Rattle.std.proofs.Common.{flat_map, take}
use Rattle.ring_rules.specs.Bounds.{AreBounds}
use Rattle.ring_rules.proofs.positioned.bounds_in.Given as goal

-- the bounds of the items before
abbrev pub invariant-loop-item : goal.invariant-loop-item
invariant-loop-item g l = AreBounds (flat_map g.T.HasPositions.positions (take l.item-index l.items)) l.bounds
