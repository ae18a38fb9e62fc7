-- Sight as it is computed is sight.
use Rattle.std.proofs.Common.{ℕ, ◌*◌, ◌%◌, ◌||◌, ◌⊎◌}
use Rattle.std.specs.Bool.{Decides}
use Rattle.std.proofs.lemmas.Bool.Decides.{Decides-and, Decides-or, Decides-eqb}
use Rattle.venue_types.specs.declared.point.Point.{Point}
use Rattle.venue_types.specs.declared.point.Spot.{Spot}
use Rattle.venue_types.specs.declared.point.Shape.{Shape}
use Rattle.plane_exact.specs.Segment.{Crosses}
use Rattle.plane_exact.specs.Figure.{Edge, all_edges, vertices, crossings, IsInside, IsNear}
use Rattle.plane_exact.specs.Scaled.{scaled}
use Rattle.plane_exact.specs.Sight.{Sight, OnOpenSegment, HasEndNearEdge, HasEndNear, at_spot, middle_of}
use Rattle.plane_exact.specs.Seeing.{does_see, is_held, is_near_edge, is_near_point, edge_stops, vertex_stops}
use Rattle.plane_exact.proofs.DecisionLemmas.{any_decides, follows_decides, near_edge_decides, edge_stops_decides, vertex_stops_decides, end_near_edge_decides, end_near_decides}

pub held_decides : (p : Point) (shape : Shape) (t : ℕ) → Decides (is_held p shape t) (IsInside p shape ⊎ IsNear p shape t)
unfolding IsInside IsNear
held_decides p shape t = Decides-or _ _ (Decides-eqb (crossings p (all_edges shape) % 2) 1) (any_decides _ _ (λ (edge : Edge). near_edge_decides p edge.from edge.to t) (all_edges shape))

pub sight_decides : (a b : Spot) (shape : Shape) (t : ℕ) → Decides (does_see a b shape t) (Sight a b shape t)
unfolding does_see
sight_decides a b shape t =
    let from = at_spot a in
    let to = at_spot b in
    let edges = follows_decides (edge_stops from to (2 * t)) (λ (edge : Edge). is_near_edge from edge.from edge.to (2 * t) || is_near_edge to edge.from edge.to (2 * t)) (λ (edge : Edge). Crosses from to edge.from edge.to) (HasEndNearEdge from to (2 * t)) (edge_stops_decides from to (2 * t)) (end_near_edge_decides from to (2 * t)) (all_edges (scaled 2 shape)) in
    let corners = follows_decides (vertex_stops from to (2 * t)) (λ v. is_near_point from v (2 * t) || is_near_point to v (2 * t)) (OnOpenSegment from to) (HasEndNear from to (2 * t)) (vertex_stops_decides from to (2 * t)) (end_near_decides from to (2 * t)) (vertices (scaled 2 shape)) in
    let all = Decides-and _ _ edges (Decides-and _ _ corners (held_decides (middle_of a b) (scaled 4 shape) (4 * t))) in
    (λ h. let s = all.0 h in record { edges = s.0; corners = s.1.0; middle = s.1.1 }, λ s. all.1 (s.edges, (s.corners, s.middle)))
