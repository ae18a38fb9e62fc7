use Rattle.std.proofs.Common.{map, take}
use Rattle.contain_rules.specs.Banding.{AreBanded}
use Rattle.contain_rules.proofs.shape_trees.bands_of.Given as goal

-- the shapes of the rows before
abbrev pub invariant-loop-row : goal.invariant-loop-row
invariant-loop-row g l = AreBanded (map g.R.HasShape.shape_of (take l.row-index l.rows)) l.list.items
