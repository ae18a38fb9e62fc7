-- Rings, parts and shapes (RFC 7946, sections 3.1.6 and 3.1.7): their edges, and what is near them or inside.
use Rattle.std.specs.Prelude.{◌≡◌, ℕ, pos, ◌%◌, List, [], ◌∷◌, Bool, ◌&&◌, ◌||◌, int_le, int_lt, count_by, Any, Contains}
use Rattle.std.specs.List.{flat_map}
use Rattle.venue_types.specs.declared.point.Point.{Point}
use Rattle.venue_types.specs.declared.point.Ring.{Ring}
use Rattle.venue_types.specs.declared.point.Part.{Part}
use Rattle.venue_types.specs.declared.point.Shape.{Shape}
use Rattle.plane_exact.specs.Plane.{side, IsClose, IsNearby}
use Rattle.plane_exact.specs.Segment.{IsNearEdge, Crosses}

-- a straight line between two neighbours of a ring
pub record Edge : Type 0 where
  pub from : Point
  pub to : Point

-- the edges of the points a ∷ rest
abbrev pub edges_from : Point → List Point → List Edge
edges_from a [] = []
edges_from a (b ∷ rest) = record { from = a; to = b } ∷ edges_from b rest

-- the edges of a ring: its neighbouring pairs of points. The last point equals the first, so none is added
abbrev pub edges : List Point → List Edge
edges [] = []
edges (a ∷ rest) = edges_from a rest

-- the rings of a polygon: the outer ring, then the holes
abbrev pub rings_of : Part → List Ring
rings_of part = part.outer ∷ part.holes

-- the rings of a shape, polygon by polygon
abbrev pub rings : Shape → List Ring
rings shape = flat_map rings_of shape.parts

-- the edges of some rings, in order
abbrev pub ring_edges : List Ring → List Edge
ring_edges list = flat_map (λ (ring : Ring). edges ring.points) list

-- the points of some rings, in order
abbrev pub ring_points : List Ring → List Point
ring_points list = flat_map (λ (ring : Ring). ring.points) list

-- the edges of a polygon
abbrev pub part_edges : Part → List Edge
part_edges part = ring_edges (rings_of part)

-- the points of a polygon
abbrev pub part_points : Part → List Point
part_points part = ring_points (rings_of part)

-- the edges of all rings of a shape
abbrev pub all_edges : Shape → List Edge
all_edges shape = ring_edges (rings shape)

-- the points of all rings of a shape
abbrev pub vertices : Shape → List Point
vertices shape = ring_points (rings shape)

-- the edge goes up past the height of p, to the right of p; at that height its lower end counts and its upper end does not
abbrev pub goes_up : Point → Edge → Bool
goes_up p edge = int_le edge.from.y p.y && int_lt p.y edge.to.y && int_lt (pos 0) (side edge.from edge.to p)

-- the same of an edge that goes down
abbrev pub goes_down : Point → Edge → Bool
goes_down p edge = int_le edge.to.y p.y && int_lt p.y edge.from.y && int_lt (side edge.from edge.to p) (pos 0)

-- the edge meets the ray from p toward greater longitude
unfoldable pub meets_ray : Point → Edge → Bool
meets_ray p edge = goes_up p edge || goes_down p edge

-- how many of the edges meet the ray from p
abbrev pub crossings : Point → List Edge → ℕ
crossings p list = count_by (meets_ray p) list

-- an odd number of the shape's edges meets the ray from p
unfoldable pub IsInside : Point → Shape → Type 0
IsInside p shape = crossings p (all_edges shape) % 2 ≡ 1

-- p is no farther than t from some of the edges
abbrev pub IsNearSome : Point → ℕ → List Edge → Type 0
IsNearSome p t list = Any (λ edge. IsNearEdge p edge.from edge.to t) list

-- p is no farther than t from some edge of some ring
unfoldable pub IsNear : Point → Shape → ℕ → Type 0
IsNear p shape t = IsNearSome p t (all_edges shape)

-- any two of the positions are close
pub record AllClose (points : List Point) : Type 0 where
  pub close : (a b : Point) → Contains points a → Contains points b → IsClose a b

-- any two of the positions are nearby
pub record AllNearby (points : List Point) : Type 0 where
  pub near : (a b : Point) → Contains points a → Contains points b → IsNearby a b

-- two of the edges cross
pub record HaveCrossing (list : List Edge) : Type 0 where
  pub one : Edge
  pub other : Edge
  pub has_one : Contains list one
  pub has_other : Contains list other
  pub cross : Crosses one.from one.to other.from other.to
