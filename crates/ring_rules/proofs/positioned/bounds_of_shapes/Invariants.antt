use Rattle.std.proofs.Common.{flat_map, take}
use Rattle.plane_exact.specs.Figure.{vertices}
use Rattle.ring_rules.specs.Bounds.{AreBounds}
use Rattle.ring_rules.proofs.positioned.bounds_of_shapes.Given as goal

-- the bounds of the rows before
abbrev pub invariant-loop-row : goal.invariant-loop-row
invariant-loop-row g l = AreBounds (flat_map (λ row. vertices (g.R.HasShape.shape_of row)) (take l.row-index l.rows)) l.bounds
