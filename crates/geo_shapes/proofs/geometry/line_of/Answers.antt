use Rattle.std.proofs.Common.{map, ◌<◌, ◌^◌, arith}
use Rattle.std.proofs.lemmas.Bool.Decides.{Decides-ltb}
use Rattle.exact_json.specs.View.{tree_view}
use Rattle.geo_shapes.proofs.Polygons.{line_read}
use Rattle.geo_shapes.proofs.geometry.line_of.Goals as goal

pub returns : goal.returns
returns c =
    let n = c.count-positions.result in
    let small : n < 2 ^ 64 = omega arith in
    let many = c.count-positions.ensures in
    let test = Decides-ltb n 2 in
    line_read (tree_view c.args.tree.now) (map tree_view c.in-Some.trees.now) c.in_ok-points.points c.is_none-bad_position.result _ c.drawn.result n
    c.in-Some.ensures c.in_ok-points.ensures c.is_none-bad_position.ensures (λ t. (let h = test.0 t in omega arith), λ few. test.1 (omega arith)) c.drawn.ensures many small
