use Rattle.std.proofs.Common.{◌≡◌, List, to_z, of_z, subst, sym, ◌∙◌}
use mir.Syntax.{w128}
use Rattle.std.proofs.lemmas.Int.{to_z-of_z}
use Rattle.venue_types.specs.declared.point.Point.{Point}
use Rattle.plane_exact.specs.Figure.{AllNearby}
use Rattle.plane_exact.proofs.ListLemmas.{read_whole}
use Rattle.plane_exact.proofs.WalkLemmas.{ring_near, ring_walk}
use Rattle.plane_exact.proofs.turns.add_ring.Goals as goal

pub add_line-requires : goal.add_line-requires
add_line-requires c =
    let read = read_whole c.as_slice.result.now _ c.in-len1-up.len_at_least ∙ c.as_slice.ensures in
    rw c.last_but_one.ensures (ring_near _ _ (subst (λ (xs : List Point). AllNearby xs) (sym read) c.requires))

pub returns-in-len1-up : goal.returns-in-len1-up
returns-in-len1-up c =
    let read = read_whole c.as_slice.result.now _ c.in-len1-up.len_at_least ∙ c.as_slice.ensures in
    let area : to_z w128 (of_z w128 c.args.area) ≡ c.args.area = to_z-of_z w128 c.args.area c.ranges.area in
    rw (← ring_walk c.args.area c.args.ring.now _ _ _ c.last_but_one.ensures read) (rw area at c.add_line.ensures)
