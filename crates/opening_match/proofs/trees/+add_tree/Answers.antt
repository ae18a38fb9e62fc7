use Rattle.std.proofs.Common.{◌≡◌, suc, ◌-◌, length, arith}
use Rattle.opening_match.proofs.Growing.{leaf_tree, join_tree, round_joined}
use Rattle.opening_match.proofs.trees.+add_tree.Goals as goal

pub returns-then-depth-eq0-clause-tree : goal.returns-then-depth-eq0-clause-tree
returns-then-depth-eq0-clause-tree t c = leaf_tree c.args.depth c.args.entries.now c.extent_of-extent.result c.args.extents.now.items _ c.if-depth-eq0.true c.extent_of-extent.ensures c.in_ok-push.ensures.items

pub returns-clause-round : goal.returns-clause-round
returns-clause-round t c = round_joined c.in_ok-first.first c.in_ok-second.second c.with-extent.result c.args.entries.now c.split_at.result.0.now c.split_at.result.1.now c.split_at.ensures.by_index.0 c.with-extent.ensures.first c.with-extent.ensures.second c.in_ok-first.ensures.round c.in_ok-second.ensures.round

pub returns-clause-tree : goal.returns-clause-tree
returns-clause-tree t c =
    let depth : c.args.depth ≡ suc (c.args.depth - 1) = omega (arith, c.if-depth-eq0.false) in
    let place : c.len-place.result ≡ length c.args.extents.now.items = omega (arith, c.len-place.ensures, c.args.extents.now.ok.0) in
    join_tree c.args.depth (c.args.depth - 1) c.len-place.result c.args.entries.now c.split_at.result.0.now c.split_at.result.1.now c.with-extent.result _ c.args.extents.now.items _ _ _
    depth place c.in_ok-push-2.ensures.items c.in_ok-first.ensures.tree c.in_ok-second.ensures.tree c.split_at.ensures.front c.split_at.ensures.back
    (round_joined c.in_ok-first.first c.in_ok-second.second c.with-extent.result c.args.entries.now c.split_at.result.0.now c.split_at.result.1.now c.split_at.ensures.by_index.0 c.with-extent.ensures.first c.with-extent.ensures.second c.in_ok-first.ensures.round c.in_ok-second.ensures.round)
