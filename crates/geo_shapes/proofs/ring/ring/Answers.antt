use Rattle.std.proofs.Common.{map, ◌<◌, ◌^◌, arith}
use Rattle.exact_json.specs.View.{tree_view}
use Rattle.geo_shapes.proofs.Polygons.{ring_read}
use Rattle.geo_shapes.proofs.ring.ring.Goals as goal

pub returns : goal.returns
returns c =
    let small : c.count-positions.result < 2 ^ 64 = omega arith in
    ring_read c.one_value_law.ensures (tree_view c.args.tree.now) (map tree_view c.in-Some.trees.now) c.in_ok-points.points c.is_none-bad_position.result c.breaks_form-bad_form.result c.closed.result c.count-positions.result
    c.in-Some.ensures c.in_ok-points.ensures c.is_none-bad_position.ensures c.breaks_form-bad_form.ensures c.closed.ensures c.count-positions.ensures small
