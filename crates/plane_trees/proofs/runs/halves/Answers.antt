use Rattle.std.proofs.Common.{◌≡◌, suc, ◌-◌, ◌/◌, length, take, drop, ap, ◌∙◌, arith}
use Rattle.plane_trees.proofs.TreeLemmas.{halves_edges, front_contained, back_contained, parts_cover, front_sound, back_sound, rest_read}
use Rattle.plane_trees.proofs.runs.halves.Goals as goal

pub returns : goal.returns
returns c =
    let run = c.args.run in
    let below = rest_read run.octagons.now in
    let parts = c.split_at.ensures.by_index.0 in
    let front = c.split_at.ensures.front in
    let back = c.split_at.ensures.back in
    let middle = c.last_of.ensures in
    let depth : run.depth ≡ suc (run.depth - 1) = omega (arith, c.if-run-eq0.false) in
    let first : c.split_at-2.result.0.now ≡ take (length (drop 1 run.octagons.now) / 2) (drop 1 run.octagons.now) = c.split_at-2.ensures.front ∙ ap (λ xs. take (length xs / 2) xs) below in
    let second : c.split_at-2.result.1.now ≡ drop (length (drop 1 run.octagons.now) / 2) (drop 1 run.octagons.now) = c.split_at-2.ensures.back ∙ ap (λ xs. drop (length xs / 2) xs) below in
    record {
      edges = halves_edges run.start run.rest.now _ _ c.last_of.result parts middle;
      front_points = λ q h. front_contained run.start q run.rest.now _ _ parts h;
      back_points = λ q h. back_contained run.start q c.last_of.result run.rest.now _ _ parts middle h;
      points = λ q h. parts_cover run.start q c.last_of.result run.rest.now _ _ parts h;
      front_sound = λ origin h. front_sound run.depth (run.depth - 1) origin run.octagons.now _ run.start run.rest.now _ depth c.in-len1-up.len_at_least first front h;
      back_sound = λ origin h. back_sound run.depth (run.depth - 1) origin run.octagons.now _ run.start c.last_of.result run.rest.now _ _ depth c.in-len1-up.len_at_least second front back middle h;
      front_depth = omega (arith, c.if-run-eq0.false);
      back_depth = omega (arith, c.if-run-eq0.false);
    }
