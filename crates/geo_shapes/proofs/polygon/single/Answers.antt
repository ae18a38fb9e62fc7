use Rattle.exact_json.specs.View.{tree_view}
use Rattle.geo_shapes.proofs.Polygons.{single_read}
use Rattle.geo_shapes.proofs.polygon.single.Goals as goal

pub returns : goal.returns
returns c = single_read (tree_view c.args.tree.now) c.in_ok-value.field-0 c.in_ok-value-2.value c.in_ok-value.ensures c.in_ok-value-2.ensures
