use Rattle.std.proofs.Common.{map}
use Rattle.exact_json.specs.View.{tree_view}
use Rattle.geo_shapes.proofs.Polygons.{polygon_read, rings_there}
use Rattle.geo_shapes.proofs.polygon.polygon.Goals as goal

pub part-requires : goal.part-requires
part-requires c = rings_there (map tree_view c.in-Some.trees.now) c.in_ok-figures.field-0 c.breaks_form-bad_form.result c.in_ok-figures.ensures c.breaks_form-bad_form.ensures

pub returns : goal.returns
returns c = polygon_read (tree_view c.args.tree.now) (map tree_view c.in-Some.trees.now) c.in_ok-figures.field-0 c.breaks_form-bad_form.result c.part.result c.in-Some.ensures c.in_ok-figures.ensures c.breaks_form-bad_form.ensures c.part.ensures
