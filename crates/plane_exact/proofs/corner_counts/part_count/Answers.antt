use Rattle.std.proofs.Common.{List, subst, sym}
use Rattle.venue_types.specs.declared.point.Ring.{Ring}
use Rattle.plane_exact.specs.Figure.{AllNearby, ring_points}
use Rattle.plane_exact.proofs.NearbyLemmas.{plain_left, plain_right}
use Rattle.plane_exact.proofs.corner_counts.part_count.Goals as goal

pub bounded_area-requires : goal.bounded_area-requires
bounded_area-requires c = plain_left c.args.part.now.outer.points (ring_points c.args.part.now.holes) c.requires.near

pub ring_count-requires-clause-near : goal.ring_count-requires-clause-near
ring_count-requires-clause-near c = plain_left c.args.part.now.outer.points (ring_points c.args.part.now.holes) c.requires.near

pub hole_count-requires-clause-near : goal.hole_count-requires-clause-near
hole_count-requires-clause-near c =
    let P : List Ring → Type 0 = λ rings. AllNearby (ring_points rings) in
    subst P (sym c.as_slice.ensures) (plain_right c.args.part.now.outer.points (ring_points c.args.part.now.holes) c.requires.near)
