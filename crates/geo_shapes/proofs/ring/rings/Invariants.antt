use Rattle.std.proofs.Common.{map, take}
use Rattle.exact_json.specs.View.{tree_view}
use Rattle.geo_shapes.specs.Reading.{GathersRings}
use Rattle.geo_shapes.proofs.ring.rings.Given as goal

abbrev pub invariant-loop-tree : goal.invariant-loop-tree
invariant-loop-tree l = GathersRings (map tree_view (take l.tree-index l.trees)) l.rings
