use Rattle.exact_json.specs.View.{tree_view}
use Rattle.geo_shapes.specs.Geometry.{polygon_places, HasShape}
use Rattle.geo_shapes.specs.Reading.{IsOf}
use Rattle.geo_shapes.proofs.Geometries.{if_ok, if_some, shape_of, shape_form}
use Rattle.geo_shapes.proofs.geometry.shape.Goals as goal

pub returns : goal.returns
returns c =
    let geometry = tree_view c.args.tree.now in
    record {
      value = if_ok c.read_shape.result c.read_shape.ensures (λ r h. if_some (IsOf (polygon_places geometry)) (HasShape geometry) r.value h.value (shape_of geometry));
      there = if_ok c.read_shape.result c.read_shape.ensures (λ r h. h.there);
      bad_position = if_ok c.read_shape.result c.read_shape.ensures (λ r h. h.bad_position);
      bad_form = if_ok c.read_shape.result c.read_shape.ensures (λ r h. shape_form geometry r.bad_form h.bad_form);
      positions = if_ok c.read_shape.result c.read_shape.ensures (λ r h. h.positions);
      longest = if_ok c.read_shape.result c.read_shape.ensures (λ r h. h.longest);
    }
