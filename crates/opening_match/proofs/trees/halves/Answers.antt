use Rattle.std.proofs.Common.{◌≡◌, suc, ◌-◌, ◌/◌, length, take, drop, ap, ◌∙◌, arith}
use Rattle.plane_trees.proofs.TreeLemmas.{rest_read}
use Rattle.opening_match.proofs.Growing.{front_tree, back_tree}
use Rattle.opening_match.proofs.trees.halves.Goals as goal

pub returns : goal.returns
returns c =
    let branch = c.args.branch in
    let below = rest_read branch.extents.now in
    let depth : branch.depth ≡ suc (branch.depth - 1) = omega (arith, c.if-branch-eq0.false) in
    let first : c.split_at-2.result.0.now ≡ take (length (drop 1 branch.extents.now) / 2) (drop 1 branch.extents.now) = c.split_at-2.ensures.front ∙ ap (λ xs. take (length xs / 2) xs) below in
    let second : c.split_at-2.result.1.now ≡ drop (length (drop 1 branch.extents.now) / 2) (drop 1 branch.extents.now) = c.split_at-2.ensures.back ∙ ap (λ xs. drop (length xs / 2) xs) below in
    record {
      entries = c.split_at.ensures.by_index.0;
      front_sound = λ h. front_tree branch.depth (branch.depth - 1) branch.extents.now _ branch.entries.now _ depth c.in-len1-up.len_at_least first c.split_at.ensures.front h;
      back_sound = λ h. back_tree branch.depth (branch.depth - 1) branch.extents.now _ branch.entries.now _ depth c.in-len1-up.len_at_least second c.split_at.ensures.back h;
      front_depth = omega (arith, c.if-branch-eq0.false);
      back_depth = omega (arith, c.if-branch-eq0.false);
    }
