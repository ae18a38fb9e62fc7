-- Who sees whom in a room: along a straight line that no wall stops.
use Rattle.std.specs.Prelude.{◌≡◌, ℕ, ◌*◌, pos, ◌+ℤ◌, ◌≤ℤ◌, ◌<ℤ◌, ◌⊎◌, All}
use Rattle.venue_types.specs.declared.point.Point.{Point}
use Rattle.venue_types.specs.declared.point.Spot.{Spot}
use Rattle.venue_types.specs.declared.point.Shape.{Shape}
use Rattle.plane_exact.specs.Plane.{side, along, squared_distance}
use Rattle.plane_exact.specs.Segment.{Crosses, IsNearEdge}
use Rattle.plane_exact.specs.Figure.{Edge, all_edges, vertices, IsInside, IsNear}
use Rattle.plane_exact.specs.Scaled.{scaled}

-- v lies on the line through a and b, strictly between the two
pub record OnOpenSegment (a b v : Point) : Type 0 where
  pub on_line : side a b v ≡ pos 0
  pub beyond_start : pos 0 <ℤ along a b v
  pub before_end : along a b v <ℤ squared_distance a b

-- a or b is no farther than t from the edge
abbrev pub HasEndNearEdge : Point → Point → ℕ → Edge → Type 0
HasEndNearEdge a b t edge = IsNearEdge a edge.from edge.to t ⊎ IsNearEdge b edge.from edge.to t

-- a or b is no farther than t from v
abbrev pub HasEndNear : Point → Point → ℕ → Point → Type 0
HasEndNear a b t v = (squared_distance a v ≤ℤ pos (t * t)) ⊎ (squared_distance b v ≤ℤ pos (t * t))

-- where a spot lies among doubled points
abbrev pub at_spot : Spot → Point
at_spot a = record { x = a.x; y = a.y }

-- the middle of two spots, where it lies among points of which all numbers are taken four times
abbrev pub middle_of : Spot → Spot → Point
middle_of a b = record { x = a.x +ℤ b.x; y = a.y +ℤ b.y }

-- a and b see each other in the shape, where t is how far off a wall a place may be that stands at it
pub record Sight (a b : Spot) (shape : Shape) (t : ℕ) : Type 0 where
  -- each edge that the way crosses has one of its ends near
  pub edges : All (λ edge. Crosses (at_spot a) (at_spot b) edge.from edge.to → HasEndNearEdge (at_spot a) (at_spot b) (2 * t) edge) (all_edges (scaled 2 shape))
  -- so has each vertex on the way
  pub corners : All (λ v. OnOpenSegment (at_spot a) (at_spot b) v → HasEndNear (at_spot a) (at_spot b) (2 * t) v) (vertices (scaled 2 shape))
  -- and its middle lies in the shape, or near it
  pub middle : IsInside (middle_of a b) (scaled 4 shape) ⊎ IsNear (middle_of a b) (scaled 4 shape) (4 * t)
