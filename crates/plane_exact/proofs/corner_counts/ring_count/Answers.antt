use Rattle.std.proofs.Common.{◌≡◌, List, length, ap, subst, sym, to_z, of_z, ◌∙◌}
use mir.Syntax.{w128}
use Rattle.std.proofs.lemmas.Int.{to_z-of_z}
use Rattle.venue_types.specs.declared.point.Point.{Point}
use Rattle.plane_exact.specs.Figure.{AllNearby}
use Rattle.plane_exact.proofs.ListLemmas.{read_whole}
use Rattle.plane_exact.proofs.WalkLemmas.{ring_near, ring_walk}
use Rattle.plane_exact.proofs.corner_counts.ring_count.Goals as goal

pub line_count-requires-clause-near : goal.line_count-requires-clause-near
line_count-requires-clause-near c =
    let read = read_whole c.as_slice.result.now _ c.in-len1-up.len_at_least ∙ c.as_slice.ensures in
    rw c.last_but_one.ensures (ring_near _ _ (subst (λ (xs : List Point). AllNearby xs) (sym read) c.requires.near))

pub line_count-requires-clause-few : goal.line_count-requires-clause-few
line_count-requires-clause-few c =
    let read = read_whole c.as_slice.result.now _ c.in-len1-up.len_at_least ∙ c.as_slice.ensures in
    let area : to_z w128 (of_z w128 c.args.area) ≡ c.args.area = to_z-of_z w128 c.args.area c.ranges.area in
    rw (area, ring_walk c.args.area c.args.ring.now _ _ _ c.last_but_one.ensures read) c.requires.few

pub returns-in-len1-up : goal.returns-in-len1-up
returns-in-len1-up c =
    let read = read_whole c.as_slice.result.now _ c.in-len1-up.len_at_least ∙ c.as_slice.ensures in
    let area : to_z w128 (of_z w128 c.args.area) ≡ c.args.area = to_z-of_z w128 c.args.area c.ranges.area in
    (rw area at c.line_count.ensures) ∙ ap (λ points. length points) (ring_walk c.args.area c.args.ring.now _ _ _ c.last_but_one.ensures read)
