-- The corners of a room, at which one turns who walks round a wall.
use Rattle.std.specs.Prelude.{ℤ, pos, neg_ℤ, ◌+ℤ◌, ◌*ℤ◌, ◌<ℤ◌, Bool, ◌&&◌, cond, int_lt, List, [], ◌∷◌, ◌++◌, map, filter}
use Rattle.std.specs.List.{dedup, flat_map}
use Rattle.std.specs.Ordering.{int_eq}
use Rattle.venue_types.specs.declared.point.Point.{Point}
use Rattle.venue_types.specs.declared.point.Ring.{Ring}
use Rattle.venue_types.specs.declared.point.Part.{Part}
use Rattle.venue_types.specs.declared.point.Shape.{Shape}
use Rattle.plane_exact.specs.Plane.{side}
use Rattle.plane_exact.specs.Figure.{Edge, edges_from}

-- ---- the area of a ring

-- the sum of the cross products of the ends of edges, counted from a point
abbrev pub cross_sum : Point → List Edge → ℤ
cross_sum origin [] = pos 0
cross_sum origin (edge ∷ rest) = side origin edge.from edge.to +ℤ cross_sum origin rest

-- twice the area of the ring through the points, below 0 where it runs clockwise; counted from the first point
abbrev pub area_of_points : List Point → ℤ
area_of_points [] = pos 0
area_of_points (first ∷ rest) = cross_sum first (edges_from first rest)

-- twice the area of a ring
abbrev pub doubled_area : Ring → ℤ
doubled_area ring = area_of_points ring.points

-- ---- its turns

-- three points of a ring, one behind the other
pub record Turn : Type 0 where
  pub before : Point
  pub at : Point
  pub behind : Point

-- the two points are one
abbrev pub is_same : Point → Point → Bool
is_same a b = int_eq a.x b.x && int_eq a.y b.y

-- the last but one of the points a ∷ b ∷ rest
abbrev pub last_but_one : Point → Point → List Point → Point
last_but_one a b [] = a
last_but_one a b (c ∷ rest) = last_but_one b c rest

-- the turns of a line that comes from a to b and goes on through the rest
abbrev pub turns_from : Point → Point → List Point → List Turn
turns_from a b [] = []
turns_from a b (c ∷ rest) = record { before = a; at = b; behind = c } ∷ turns_from b c rest

-- the turns of a ring no two neighbours of which are one, the first at its first point: one comes there from the last but one, since the last is the first again
abbrev pub turns_round : List Point → List Turn
turns_round [] = []
turns_round (a ∷ []) = []
turns_round (a ∷ b ∷ rest) = turns_from (last_but_one a b rest) a (b ∷ rest)

-- the turns of a ring, equal neighbours taken once
abbrev pub turns : Ring → List Turn
turns ring = turns_round (dedup is_same ring.points)

-- ---- corners

-- the ring turns there against its area
abbrev pub IsCorner : ℤ → Turn → Type 0
IsCorner area turn = (side turn.before turn.at turn.behind *ℤ area) <ℤ pos 0

-- the same, computed
abbrev pub is_corner : ℤ → Turn → Bool
is_corner area turn = int_lt (side turn.before turn.at turn.behind *ℤ area) (pos 0)

-- the corners of a ring of that area, from its first point on
abbrev pub ring_corners : ℤ → Ring → List Point
ring_corners area ring = map (λ (turn : Turn). turn.at) (filter (is_corner area) (turns ring))

-- of a hole: the room lies outside it
abbrev pub hole_corners : Ring → List Point
hole_corners hole = ring_corners (neg_ℤ (doubled_area hole)) hole

-- of a polygon: those of its border, then those of its holes
abbrev pub part_corners : Part → List Point
part_corners part = ring_corners (doubled_area part.outer) part.outer ++ flat_map hole_corners part.holes

-- of a shape, by polygon, ring and place
abbrev pub corners : Shape → List Point
corners shape = flat_map part_corners shape.parts

-- ---- corners told on a walk that copies no ring

-- the point from which one comes to c, who came from a to b: equal neighbours are one point
abbrev pub point_before : Point → Point → Point → Point
point_before a b c = cond (is_same c b) a b

-- the last but one of the points a ∷ b ∷ rest, equal neighbours taken once
abbrev pub before_last : Point → Point → List Point → Point
before_last a b [] = a
before_last a b (c ∷ rest) = before_last (point_before a b c) c rest

-- the corners of a line that comes from a to b and goes on through the rest, equal neighbours taken once
abbrev pub line_corners : ℤ → Point → Point → List Point → List Point
line_corners area a b [] = []
line_corners area a b (c ∷ rest) = cond (is_corner area (record { before = a; at = b; behind = c })) (b ∷ []) [] ++ line_corners area (point_before a b c) c rest
