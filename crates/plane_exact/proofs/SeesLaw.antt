-- Sight, asked of the shape of which all numbers are taken four times.
use Rattle.std.proofs.Common.{◌≡◌, ℕ, ◌*◌, ◌<◌, ℤ, pos, ◌*ℤ◌, Bool, not, ◌&&◌, ◌||◌, IsTrue, ◌↔◌, ◌⊎◌, List, [], ◌∷◌, map, refl, ap, ap₂, sym, ◌∙◌, arith}
use Rattle.std.specs.List.{list_any, Contains}
use Rattle.std.proofs.lemmas.Int.{ints}
use Rattle.std.proofs.lemmas.Bool.Decides.{Decides-and}
use Rattle.venue_types.specs.declared.point.Point.{Point}
use Rattle.venue_types.specs.declared.point.Spot.{Spot}
use Rattle.venue_types.specs.declared.point.Shape.{Shape}
use Rattle.plane_exact.specs.declared.walls.Wall.{Wall}
use Rattle.plane_exact.specs.declared.walls.Wall.TheVariants as wall
use Rattle.plane_exact.specs.Figure.{Edge, all_edges, vertices, IsInside, IsNear}
use Rattle.plane_exact.specs.Scaled.{times, scaled, scaled_edge}
use Rattle.plane_exact.specs.Sight.{Sight, at_spot, middle_of}
use Rattle.plane_exact.specs.Walls.{IsAmong, IsWallOf, Stops}
use Rattle.plane_exact.specs.Seeing.{does_see, is_held, does_cross, is_near_point, is_near_edge, is_on_open_segment, edge_stops, vertex_stops}
use Rattle.plane_exact.proofs.ScaleLemmas.{times_crossing, times_open_segment, times_near_point, times_near_edge}
use Rattle.plane_exact.proofs.ScaleLaw.{edges_of_scaled, points_of_scaled, same_test}
use Rattle.plane_exact.proofs.DecisionLemmas.{crossing_decides, near_point_decides, near_edge_decides, open_segment_decides, edge_stops_decides, vertex_stops_decides, none_decides}
use Rattle.plane_exact.proofs.SightLaw.{held_decides, sight_decides}

-- ---- one wall

cross_scaled : (k : ℕ) (a b c d : Point) → 0 < k → does_cross (times k a) (times k b) (times k c) (times k d) ≡ does_cross a b c d
cross_scaled k a b c d h = same_test _ _ _ _ (crossing_decides _ _ _ _) (crossing_decides a b c d) (times_crossing k a b c d h)

near_point_scaled : (k t : ℕ) (a v : Point) → 0 < k → is_near_point (times k a) (times k v) (k * t) ≡ is_near_point a v t
near_point_scaled k t a v h = same_test _ _ _ _ (near_point_decides _ _ _) (near_point_decides a v t) (times_near_point k t a v h)

near_edge_scaled : (k t : ℕ) (p a b : Point) → 0 < k → is_near_edge (times k p) (times k a) (times k b) (k * t) ≡ is_near_edge p a b t
near_edge_scaled k t p a b h = same_test _ _ _ _ (near_edge_decides _ _ _ _) (near_edge_decides p a b t) (times_near_edge k t p a b h)

open_segment_scaled : (k : ℕ) (a b v : Point) → 0 < k → is_on_open_segment (times k a) (times k b) (times k v) ≡ is_on_open_segment a b v
open_segment_scaled k a b v h = same_test _ _ _ _ (open_segment_decides _ _ _) (open_segment_decides a b v) (times_open_segment k a b v h)

edge_stops_scaled : (k t : ℕ) (a b : Point) (edge : Edge) → 0 < k → edge_stops (times k a) (times k b) (k * t) (scaled_edge k edge) ≡ edge_stops a b t edge
edge_stops_scaled k t a b edge h = ap₂ (λ x y. x && not y) (cross_scaled k a b edge.from edge.to h) (ap₂ (λ x y. x || y) (near_edge_scaled k t a edge.from edge.to h) (near_edge_scaled k t b edge.from edge.to h))

vertex_stops_scaled : (k t : ℕ) (a b v : Point) → 0 < k → vertex_stops (times k a) (times k b) (k * t) (times k v) ≡ vertex_stops a b t v
vertex_stops_scaled k t a b v h = ap₂ (λ x y. x && not y) (open_segment_scaled k a b v h) (ap₂ (λ x y. x || y) (near_point_scaled k t a v h) (near_point_scaled k t b v h))

-- ---- four times is twice two times

twice : (p : Point) → times 4 p ≡ times 2 (times 2 p)
twice p = ap₂ (λ (x y : ℤ). record { x = x; y = y }) (number p.x) (number p.y) where
  number : (z : ℤ) → pos 4 *ℤ z ≡ pos 2 *ℤ (pos 2 *ℤ z)
  number z = omega (arith, ints)

twice_edge : (edge : Edge) → scaled_edge 4 edge ≡ scaled_edge 2 (scaled_edge 2 edge)
twice_edge edge = ap₂ (λ (from to : Point). record { from = from; to = to }) (twice edge.from) (twice edge.to)

twice_tolerance : (t : ℕ) → 4 * t ≡ 2 * (2 * t)
twice_tolerance t = omega arith

edge_stops_twice : (t : ℕ) (a b : Point) (edge : Edge) → edge_stops (times 2 a) (times 2 b) (4 * t) (scaled_edge 4 edge) ≡ edge_stops a b (2 * t) (scaled_edge 2 edge)
edge_stops_twice t a b edge =
    ap₂ (λ (n : ℕ) (e : Edge). edge_stops (times 2 a) (times 2 b) n e) (twice_tolerance t) (twice_edge edge) ∙ edge_stops_scaled 2 (2 * t) a b (scaled_edge 2 edge) (omega arith)

vertex_stops_twice : (t : ℕ) (a b v : Point) → vertex_stops (times 2 a) (times 2 b) (4 * t) (times 4 v) ≡ vertex_stops a b (2 * t) (times 2 v)
vertex_stops_twice t a b v =
    ap₂ (λ (n : ℕ) (p : Point). vertex_stops (times 2 a) (times 2 b) n p) (twice_tolerance t) (twice v) ∙ vertex_stops_scaled 2 (2 * t) a b (times 2 v) (omega arith)

any_alike : {X Y Z : Type 0} (f : Y → Bool) (g : Z → Bool) (h : X → Y) (k : X → Z) → ((x : X) → f (h x) ≡ g (k x)) → (xs : List X) → list_any f (map h xs) ≡ list_any g (map k xs)
any_alike f g h k e [] = refl
any_alike f g h k e (x ∷ xs) = ap₂ (λ a b. a || b) (e x) (any_alike f g h k e xs)

-- some edge of the doubled shape stops the way exactly where one of the quadrupled shape stops the doubled way, and so with vertices
edges_twice : (a b : Point) (shape : Shape) (t : ℕ) → list_any (edge_stops (times 2 a) (times 2 b) (4 * t)) (all_edges (scaled 4 shape)) ≡ list_any (edge_stops a b (2 * t)) (all_edges (scaled 2 shape))
edges_twice a b shape t =
    let f = edge_stops (times 2 a) (times 2 b) (4 * t) in
    let g = edge_stops a b (2 * t) in
    ap (list_any f) (edges_of_scaled 4 shape) ∙ any_alike f g (scaled_edge 4) (scaled_edge 2) (edge_stops_twice t a b) (all_edges shape) ∙ ap (list_any g) (sym (edges_of_scaled 2 shape))

corners_twice : (a b : Point) (shape : Shape) (t : ℕ) → list_any (vertex_stops (times 2 a) (times 2 b) (4 * t)) (vertices (scaled 4 shape)) ≡ list_any (vertex_stops a b (2 * t)) (vertices (scaled 2 shape))
corners_twice a b shape t =
    let f = vertex_stops (times 2 a) (times 2 b) (4 * t) in
    let g = vertex_stops a b (2 * t) in
    ap (list_any f) (points_of_scaled 4 shape) ∙ any_alike f g (times 4) (times 2) (vertex_stops_twice t a b) (vertices shape) ∙ ap (list_any g) (sym (points_of_scaled 2 shape))

-- ---- all walls

-- sight as it is computed of the quadrupled shape
abbrev pub sees_quadrupled : Spot → Spot → Shape → ℕ → Bool
sees_quadrupled a b shape t =
    not (list_any (edge_stops (times 2 (at_spot a)) (times 2 (at_spot b)) (4 * t)) (all_edges (scaled 4 shape)))
    && (not (list_any (vertex_stops (times 2 (at_spot a)) (times 2 (at_spot b)) (4 * t)) (vertices (scaled 4 shape)))
    && is_held (middle_of a b) (scaled 4 shape) (4 * t))

pub same_sight : (a b : Spot) (shape : Shape) (t : ℕ) → sees_quadrupled a b shape t ≡ does_see a b shape t
unfolding does_see
same_sight a b shape t = ap₂ (λ x y. not x && (not y && is_held (middle_of a b) (scaled 4 shape) (4 * t))) (edges_twice (at_spot a) (at_spot b) shape t) (corners_twice (at_spot a) (at_spot b) shape t)

no_wall : (list : List Edge) (points : List Point) (a b : Point) (t : ℕ) → ((edge : Edge) → Contains list edge → ¬ IsTrue (edge_stops a b t edge)) → ((v : Point) → Contains points v → ¬ IsTrue (vertex_stops a b t v)) → (it : Wall) → IsAmong list points it → ¬ Stops it a b t
no_wall list points a b t f g (wall.Edge from to) has stopped = f (record { from = from; to = to }) has ((edge_stops_decides a b t (record { from = from; to = to })).1 stopped)
no_wall list points a b t f g (wall.Vertex v) has stopped = g v has ((vertex_stops_decides a b t v).1 stopped)

pub sees_walls : (a b : Spot) (shape : Shape) (t : ℕ) → Sight a b shape t ↔ (((it : Wall) → IsWallOf (scaled 4 shape) it → ¬ Stops it (times 2 (at_spot a)) (times 2 (at_spot b)) (4 * t)) × (IsInside (middle_of a b) (scaled 4 shape) ⊎ IsNear (middle_of a b) (scaled 4 shape) (4 * t)))
sees_walls a b shape t =
    let from = times 2 (at_spot a) in
    let to = times 2 (at_spot b) in
    let list = all_edges (scaled 4 shape) in
    let points = vertices (scaled 4 shape) in
    let edges = none_decides (edge_stops from to (4 * t)) list in
    let corners = none_decides (vertex_stops from to (4 * t)) points in
    let all = Decides-and _ _ edges (Decides-and _ _ corners (held_decides (middle_of a b) (scaled 4 shape) (4 * t))) in (
      λ s. let h = all.0 (same_sight a b shape t ∙ (sight_decides a b shape t).1 s) in (no_wall list points from to (4 * t) h.0 h.1.0, h.1.1),
      λ h. (sight_decides a b shape t).0
          (sym (same_sight a b shape t)
          ∙ all.1 (
            (λ edge has stopped. h.0 (wall.Edge edge.from edge.to) has ((edge_stops_decides from to (4 * t) edge).0 stopped)),
            ((λ v has stopped. h.0 (wall.Vertex v) has ((vertex_stops_decides from to (4 * t) v).0 stopped)), h.1),
          )),
    )
