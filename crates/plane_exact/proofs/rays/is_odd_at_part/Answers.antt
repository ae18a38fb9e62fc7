use Rattle.std.proofs.Common.{◌∷◌, List, subst, sym}
use Rattle.venue_types.specs.declared.point.Ring.{Ring}
use Rattle.plane_exact.specs.Figure.{AllNearby, ring_points}
use Rattle.plane_exact.proofs.NearbyLemmas.{AllNearby-left, AllNearby-right}
use Rattle.plane_exact.proofs.rays.is_odd_at_part.Goals as goal

pub inside_ring-requires : goal.inside_ring-requires
inside_ring-requires c = AllNearby-left c.args.p c.args.part.now.outer.points (ring_points c.args.part.now.holes) c.requires

pub is_odd_at_rings-requires : goal.is_odd_at_rings-requires
is_odd_at_rings-requires c =
    let P : List Ring → Type 0 = λ rings. AllNearby (c.args.p ∷ ring_points rings) in
    subst P (sym c.as_slice.ensures) (AllNearby-right c.args.p c.args.part.now.outer.points (ring_points c.args.part.now.holes) c.requires)
