-- Sight as it is computed.
use Rattle.std.specs.Prelude.{ℕ, ◌*◌, ◌%◌, ℤ, pos, ◌*ℤ◌, Bool, not, ◌&&◌, ◌||◌, ◌==◌, int_le, int_lt, if◌then◌else◌}
use Rattle.std.specs.List.{list_any}
use Rattle.std.specs.Ordering.{int_eq}
use Rattle.venue_types.specs.declared.point.Point.{Point}
use Rattle.venue_types.specs.declared.point.Spot.{Spot}
use Rattle.venue_types.specs.declared.point.Shape.{Shape}
use Rattle.plane_exact.specs.Plane.{side, along, squared_distance, square}
use Rattle.plane_exact.specs.Figure.{Edge, all_edges, vertices, crossings}
use Rattle.plane_exact.specs.Scaled.{scaled}
use Rattle.plane_exact.specs.Sight.{at_spot, middle_of}

-- one of the two numbers is above 0 and the other is below
abbrev pub have_opposite_signs : ℤ → ℤ → Bool
have_opposite_signs m n = (int_lt m (pos 0) && int_lt (pos 0) n) || (int_lt (pos 0) m && int_lt n (pos 0))

-- whether the segments ab and cd cross
unfoldable pub does_cross : Point → Point → Point → Point → Bool
does_cross a b c d = have_opposite_signs (side a b c) (side a b d) && have_opposite_signs (side c d a) (side c d b)

-- whether the distance of p to q is at most t
unfoldable pub is_near_point : Point → Point → ℕ → Bool
is_near_point p q t = int_le (squared_distance p q) (pos (t * t))

-- whether the distance of p to the segment ab is at most t
unfoldable pub is_near_edge : Point → Point → Point → ℕ → Bool
is_near_edge p a b t =
    if int_le (along a b p) (pos 0)
    then is_near_point a p t
    else (if int_le (squared_distance a b) (along a b p) then is_near_point b p t else int_le (square (side a b p)) (pos (t * t) *ℤ squared_distance a b))

-- whether v lies strictly between a and b
unfoldable pub is_on_open_segment : Point → Point → Point → Bool
is_on_open_segment a b v = int_eq (side a b v) (pos 0) && (int_lt (pos 0) (along a b v) && int_lt (along a b v) (squared_distance a b))

-- whether the edge stops the way from a to b, and whether the vertex does
abbrev pub edge_stops : Point → Point → ℕ → Edge → Bool
edge_stops a b t edge = does_cross a b edge.from edge.to && not (is_near_edge a edge.from edge.to t || is_near_edge b edge.from edge.to t)

abbrev pub vertex_stops : Point → Point → ℕ → Point → Bool
vertex_stops a b t v = is_on_open_segment a b v && not (is_near_point a v t || is_near_point b v t)

-- whether p is in the shape, or no farther than t from its border
abbrev pub is_held : Point → Shape → ℕ → Bool
is_held p shape t = (crossings p (all_edges shape) % 2 == 1) || list_any (λ (edge : Edge). is_near_edge p edge.from edge.to t) (all_edges shape)

-- whether a and b see each other in the shape
unfoldable pub does_see : Spot → Spot → Shape → ℕ → Bool
does_see a b shape t =
    not (list_any (edge_stops (at_spot a) (at_spot b) (2 * t)) (all_edges (scaled 2 shape)))
    && (not (list_any (vertex_stops (at_spot a) (at_spot b) (2 * t)) (vertices (scaled 2 shape)))
    && is_held (middle_of a b) (scaled 4 shape) (4 * t))
