use Rattle.plane_trees.proofs.GrowLemmas.{own_origin, whole_tree}
use Rattle.plane_trees.proofs.tree_growth.tree_of.Goals as goal

pub add_tree-requires : goal.add_tree-requires
add_tree-requires c = own_origin c.args.start c.args.rest.now c.requires

pub returns : goal.returns
returns c = whole_tree c.depth_of-depth.result c.args.start c.args.start c.args.rest.now _ _ c.new-octagons.ensures.items c.in_ok-add_tree.ensures.tree
