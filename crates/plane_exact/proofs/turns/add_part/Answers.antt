use Rattle.std.proofs.Common.{List, subst, sym}
use Rattle.venue_types.specs.declared.point.Ring.{Ring}
use Rattle.plane_exact.specs.Figure.{AllNearby, ring_points}
use Rattle.plane_exact.proofs.NearbyLemmas.{plain_left, plain_right}
use Rattle.plane_exact.proofs.turns.add_part.Goals as goal

pub add_ring-requires : goal.add_ring-requires
add_ring-requires c = plain_left c.args.part.now.outer.points (ring_points c.args.part.now.holes) c.requires

pub add_holes-requires : goal.add_holes-requires
add_holes-requires c =
    let P : List Ring → Type 0 = λ rings. AllNearby (ring_points rings) in
    subst P (sym c.as_slice.ensures) (plain_right c.args.part.now.outer.points (ring_points c.args.part.now.holes) c.requires)
