use Rattle.std.proofs.Common.{List, ◌++◌, subst}
use Rattle.std.proofs.lemmas.List.Elements.{Contains-append_cases}
use Rattle.venue_types.specs.declared.point.Point.{Point}
use Rattle.venue_types.specs.declared.point.Ring.{Ring}
use Rattle.plane_exact.specs.Figure.{ring_points}
use Rattle.opening_match.specs.Frames.{Grows}
use Rattle.opening_match.proofs.Framing.{grows_more}
use Rattle.opening_match.proofs.frame.with_part.Goals as goal

pub returns : goal.returns
returns c =
    let part = c.args.part.now in
    let outer = c.with_points-outer.result in
    grows_more c.args.frame outer c.with_rings.result part.outer.points (ring_points part.holes) (part.outer.points ++ ring_points part.holes)
    (subst (λ (points : List Point). Grows c.args.frame outer points) c.as_slice.ensures c.with_points-outer.ensures)
    (subst (λ (rings : List Ring). Grows outer c.with_rings.result (ring_points rings)) c.as_slice-2.ensures c.with_rings.ensures)
    (λ p h. Contains-append_cases part.outer.points (ring_points part.holes) p h)
