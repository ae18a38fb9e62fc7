use Rattle.std.proofs.Common.{sym, subst, map, take, ◌+◌, List}
use Rattle.std.specs.List.{AllZip}
use Rattle.exact_json.specs.View.{tree_view}
use Rattle.venue_types.specs.declared.point.Point.{Point}
use Rattle.geo_shapes.specs.Position.{IsPosition, IsNoPosition}
use Rattle.geo_shapes.proofs.Lists.{any_at, zip_more}
use Rattle.geo_shapes.proofs.position.points.Goals as goal

pub returns-in-None : goal.returns-in-None
returns-in-None c = any_at IsNoPosition tree_view c.args.trees.now c.loop-tree.tree-index c.tree-item.result c.loop-tree-test.true c.tree-item.is c.in-None.ensures

pub loop-tree-preserved : goal.loop-tree-preserved
loop-tree-preserved c =
    let i = c.loop-tree.tree-index in
    let xs = c.args.trees.now in
    let more = zip_more IsPosition tree_view xs i c.tree-item.result c.loop-tree.points.items c.in-Some.point c.loop-tree-test.true c.tree-item.is c.loop-tree.invariant c.in-Some.ensures in
    let P : List Point → Type 0 = λ ys. AllZip IsPosition (map tree_view (take (i + 1) xs)) ys in
    subst P (sym c.in_ok-push-in-Some.ensures.items) more
