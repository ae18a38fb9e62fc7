use Rattle.std.proofs.Common.{map}
use Rattle.exact_json.specs.View.{tree_view}
use Rattle.geo_shapes.proofs.Polygons.{several_read}
use Rattle.geo_shapes.proofs.polygon.several.Goals as goal

pub returns : goal.returns
returns c = several_read (map tree_view c.args.trees.now) c.in_ok-figures.field-0 c.breaks_form-bad_form.result c.shape_of.result c.in_ok-figures.ensures c.breaks_form-bad_form.ensures c.shape_of.ensures
