use Rattle.std.proofs.Common.{[], ◌∷◌, flat_map, ap, ◌∙◌}
use Rattle.std.proofs.lemmas.List.Elements.{All-nil, All-append, All-same}
use Rattle.venue_types.specs.declared.point.Ring.{Ring}
use Rattle.test_figures.specs.Boxes.{IsInBox}
use Rattle.plane_exact.specs.Figure.{part_points, rings_of}
use Rattle.plane_exact.proofs.ListLemmas.{flat_map-flat_map}
use Rattle.test_plane.proofs.rooms.two_parts.Goals as goal

pub returns : goal.returns
returns c =
    let first = c.in_ok-first.first in
    let second = c.in_ok-second.second in
    All-same IsInBox _ _ (flat_map-flat_map (λ (ring : Ring). ring.points) rings_of c.from_vec.result ∙ ap (flat_map part_points) (c.from_vec.ensures ∙ c.in_ok-vec.ensures.items))
    (All-append IsInBox (part_points first) (flat_map part_points (second ∷ [])) c.in_ok-first.ensures.inside (All-append IsInBox (part_points second) [] c.in_ok-second.ensures.inside (All-nil IsInBox)))
