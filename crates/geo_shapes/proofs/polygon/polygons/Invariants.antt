use Rattle.std.proofs.Common.{map, take}
use Rattle.exact_json.specs.View.{tree_view}
use Rattle.geo_shapes.specs.Reading.{GathersPolygons}
use Rattle.geo_shapes.proofs.polygon.polygons.Given as goal

abbrev pub invariant-loop-tree : goal.invariant-loop-tree
invariant-loop-tree l = GathersPolygons (map tree_view (take l.tree-index l.trees)) l.parts
