use Rattle.std.proofs.Common.{map, ◌∙◌}
use Rattle.exact_json.specs.View.{tree_view}
use Rattle.geo_shapes.proofs.Positions.{position_is, none_x, none_y, none_short_list, two_items, listed_is}
use Rattle.geo_shapes.proofs.position.position.Goals as goal

pub returns-in-Some-latitude : goal.returns-in-Some-latitude
returns-in-Some-latitude c =
    let xs = c.in-Some.trees.now in
    let value = tree_view c.args.tree.now in
    let items = two_items tree_view xs c.x-item.result c.y-item.result c.in-len2-up.len_at_least c.x-item.is c.y-item.is in
    position_is value _ _ _ c.in-Some-longitude.x c.in-Some-latitude.y (listed_is value (map tree_view xs) c.in-Some.ensures ∙ items) c.in-Some-longitude.ensures c.in-Some-latitude.ensures

pub returns-in-None-latitude : goal.returns-in-None-latitude
returns-in-None-latitude c =
    let xs = c.in-Some.trees.now in
    let value = tree_view c.args.tree.now in
    let items = two_items tree_view xs c.x-item.result c.y-item.result c.in-len2-up.len_at_least c.x-item.is c.y-item.is in
    none_y value _ _ _ (listed_is value (map tree_view xs) c.in-Some.ensures ∙ items) c.in-None-latitude.ensures

pub returns-in-None-longitude : goal.returns-in-None-longitude
returns-in-None-longitude c =
    let xs = c.in-Some.trees.now in
    let value = tree_view c.args.tree.now in
    let items = two_items tree_view xs c.x-item.result c.y-item.result c.in-len2-up.len_at_least c.x-item.is c.y-item.is in
    none_x value _ _ _ (listed_is value (map tree_view xs) c.in-Some.ensures ∙ items) c.in-None-longitude.ensures

pub returns-in_default : goal.returns-in_default
returns-in_default c = none_short_list tree_view (tree_view c.args.tree.now) c.in-Some.trees.now c.in-Some.ensures c.in_default.len_below
