use Rattle.std.proofs.Common.{◌∷◌, ◌↔◌, IsTrue, List, subst, sym}
use Rattle.std.proofs.lemmas.Bool.{false≢true}
use Rattle.venue_types.specs.declared.point.Ring.{Ring}
use Rattle.plane_exact.specs.Segment.{IsNearEdge}
use Rattle.plane_exact.specs.Figure.{AllNearby, Edge, edges, ring_points, ring_edges, IsNearSome}
use Rattle.plane_exact.proofs.ListLemmas.{any_past_all}
use Rattle.plane_exact.proofs.SegmentLemmas.{iff_along}
use Rattle.plane_exact.proofs.NearbyLemmas.{AllNearby-left, AllNearby-right}
use Rattle.plane_exact.proofs.borders.near_part.Goals as goal

pub near_ring-requires-clause-close : goal.near_ring-requires-clause-close
near_ring-requires-clause-close c = AllNearby-left c.args.p c.args.part.now.outer.points (ring_points c.args.part.now.holes) c.requires.close

pub near_rings-requires-clause-close : goal.near_rings-requires-clause-close
near_rings-requires-clause-close c =
    let P : List Ring → Type 0 = λ rings. AllNearby (c.args.p ∷ ring_points rings) in
    subst P (sym c.as_slice.ensures) (AllNearby-right c.args.p c.args.part.now.outer.points (ring_points c.args.part.now.holes) c.requires.close)

pub returns-else-near_ring : goal.returns-else-near_ring
returns-else-near_ring c =
    let P : List Ring → Type 0 = λ rings. IsTrue c.near_rings.result ↔ IsNearSome c.args.p c.args.t (ring_edges rings) in
    iff_along (subst P c.as_slice.ensures c.near_rings.ensures)
    (any_past_all (λ (edge : Edge). IsNearEdge c.args.p edge.from edge.to c.args.t) (edges c.args.part.now.outer.points) (ring_edges c.args.part.now.holes) (λ h. false≢true (c.if-near_ring.ensures.1 h)))
