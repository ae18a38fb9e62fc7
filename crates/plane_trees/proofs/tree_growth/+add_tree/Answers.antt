use Rattle.std.proofs.Common.{◌≡◌, ◌∷◌, suc, ◌-◌, length, arith}
use Rattle.plane_exact.proofs.NearbyLemmas.{AllNearby-within}
use Rattle.plane_trees.proofs.TreeLemmas.{front_contained, back_contained}
use Rattle.plane_trees.proofs.GrowLemmas.{leaf_tree, join_tree, join_round}
use Rattle.plane_trees.proofs.tree_growth.+add_tree.Goals as goal

pub returns-then-depth-eq0-clause-tree : goal.returns-then-depth-eq0-clause-tree
returns-then-depth-eq0-clause-tree t c = leaf_tree c.args.depth c.args.origin c.args.start c.args.rest.now c.octagon_of-octagon.result c.args.octagons.now.items _ c.if-depth-eq0.true c.octagon_of-octagon.ensures c.in_ok-push.ensures.items

pub add_tree-requires : goal.add_tree-requires
add_tree-requires t c = (omega (arith, c.if-depth-eq0.false), AllNearby-within c.args.origin (c.args.start ∷ c.split_at.result.0.now) (c.args.start ∷ c.args.rest.now) (λ q h. front_contained c.args.start q c.args.rest.now _ _ c.split_at.ensures.by_index.0 h) c.requires)

pub add_tree-requires-2 : goal.add_tree-requires-2
add_tree-requires-2 t c = (omega (arith, c.if-depth-eq0.false), AllNearby-within c.args.origin (c.last_of.result ∷ c.split_at.result.1.now) (c.args.start ∷ c.args.rest.now) (λ q h. back_contained c.args.start q c.last_of.result c.args.rest.now _ _ c.split_at.ensures.by_index.0 c.last_of.ensures h) c.requires)

pub returns-clause-round : goal.returns-clause-round
returns-clause-round t c = join_round c.in_ok-first.first c.in_ok-second.second c.with-octagon.result c.args.origin c.args.start c.last_of.result c.args.rest.now _ _ c.split_at.ensures.by_index.0 c.with-octagon.ensures.first c.with-octagon.ensures.second c.in_ok-first.ensures.round c.in_ok-second.ensures.round

pub returns-clause-tree : goal.returns-clause-tree
returns-clause-tree t c =
    let depth : c.args.depth ≡ suc (c.args.depth - 1) = omega (arith, c.if-depth-eq0.false) in
    let place : c.len-place.result ≡ length c.args.octagons.now.items = omega (arith, c.len-place.ensures, c.args.octagons.now.ok.0) in
    join_tree c.args.depth (c.args.depth - 1) c.len-place.result c.args.origin c.args.start c.last_of.result c.args.rest.now _ _ c.with-octagon.result _ c.args.octagons.now.items _ _ _
    depth place c.in_ok-push-2.ensures.items c.in_ok-first.ensures.tree c.in_ok-second.ensures.tree c.split_at.ensures.front c.split_at.ensures.back c.last_of.ensures
    (join_round c.in_ok-first.first c.in_ok-second.second c.with-octagon.result c.args.origin c.args.start c.last_of.result c.args.rest.now _ _ c.split_at.ensures.by_index.0 c.with-octagon.ensures.first c.with-octagon.ensures.second c.in_ok-first.ensures.round c.in_ok-second.ensures.round)
