use Rattle.std.proofs.Common.{◌≡◌, suc, ◌-◌, ◌/◌, length, take, drop, ap, ◌∙◌, arith}
use Rattle.plane_trees.proofs.TreeLemmas.{rest_read}
use Rattle.plane_trees.proofs.GroveLemmas.{front_grove, back_grove}
use Rattle.plane_trees.proofs.groves.grove_halves.Goals as goal

pub returns : goal.returns
returns c =
    let grove = c.args.grove in
    let below = rest_read grove.octagons.now in
    let depth : grove.depth ≡ suc (grove.depth - 1) = omega (arith, c.if-grove-eq0.false) in
    let first : c.split_at-2.result.0.now ≡ take (length (drop 1 grove.octagons.now) / 2) (drop 1 grove.octagons.now) = c.split_at-2.ensures.front ∙ ap (λ xs. take (length xs / 2) xs) below in
    let second : c.split_at-2.result.1.now ≡ drop (length (drop 1 grove.octagons.now) / 2) (drop 1 grove.octagons.now) = c.split_at-2.ensures.back ∙ ap (λ xs. drop (length xs / 2) xs) below in
    record {
      rings = c.split_at.ensures.by_index.0;
      front_sound = λ origin h. front_grove grove.depth (grove.depth - 1) origin grove.octagons.now _ grove.rings.now _ depth c.in-len1-up.len_at_least first c.split_at.ensures.front h;
      back_sound = λ origin h. back_grove grove.depth (grove.depth - 1) origin grove.octagons.now _ grove.rings.now _ depth c.in-len1-up.len_at_least second c.split_at.ensures.back h;
      front_depth = omega (arith, c.if-grove-eq0.false);
      back_depth = omega (arith, c.if-grove-eq0.false);
    }
