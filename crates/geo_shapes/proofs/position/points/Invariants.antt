use Rattle.std.proofs.Common.{map, take}
use Rattle.std.specs.List.{AllZip}
use Rattle.exact_json.specs.View.{tree_view}
use Rattle.geo_shapes.specs.Position.{IsPosition}
use Rattle.geo_shapes.proofs.position.points.Given as goal

abbrev pub invariant-loop-tree : goal.invariant-loop-tree
invariant-loop-tree l = AllZip IsPosition (map tree_view (take l.tree-index l.trees)) l.points.items
