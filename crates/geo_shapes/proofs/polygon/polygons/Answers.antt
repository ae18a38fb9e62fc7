use Rattle.exact_json.specs.View.{tree_view}
use Rattle.geo_shapes.specs.Values.{listed}
use Rattle.geo_shapes.specs.Figure.{IsPolygon, BreaksPolygon}
use Rattle.geo_shapes.specs.Reading.{polygon_positions}
use Rattle.geo_shapes.proofs.Gatherings.{gathers_step}
use Rattle.geo_shapes.proofs.polygon.polygons.Goals as goal

pub loop-tree-preserved : goal.loop-tree-preserved
loop-tree-preserved c =
    gathers_step IsPolygon BreaksPolygon polygon_positions listed tree_view c.args.trees.now c.loop-tree.tree-index c.tree-item.result c.loop-tree.parts c.add.new.self c.in_ok-read.read
    c.loop-tree-test.true c.tree-item.is c.loop-tree.invariant c.in_ok-read.ensures c.in_ok-add.ensures
