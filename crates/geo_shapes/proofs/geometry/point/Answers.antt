use Rattle.std.proofs.Common.{option_map, refl}
use Rattle.exact_json.specs.View.{tree_view}
use Rattle.geo_shapes.specs.Geometry.{coordinates}
use Rattle.geo_shapes.proofs.Geometries.{member_read, point_value, point_there, point_flag}
use Rattle.geo_shapes.proofs.geometry.point.Goals as goal

pub returns : goal.returns
returns c =
    let value = coordinates (tree_view c.args.tree.now) in
    let found = c.maybe_position-value.result in
    let reads = member_read (option_map (λ t. tree_view t.now) c.coordinates.result) found value c.coordinates.ensures c.maybe_position-value.ensures in
    record {
      value = point_value value found reads;
      there = point_there found c.is_none.result c.is_none.ensures;
      bad_position = point_flag value found c.is_none.result c.is_none.ensures reads;
      bad_form = refl;
      positions = refl;
      longest = refl;
    }
