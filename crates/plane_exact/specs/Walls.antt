-- The walls of a shape, which are its edges and its vertices, and what they stop.
use Rattle.std.specs.Prelude.{ℕ, List, [], ◌∷◌, Contains}
use Rattle.venue_types.specs.declared.point.Point.{Point}
use Rattle.venue_types.specs.declared.point.Shape.{Shape}
use Rattle.plane_exact.specs.declared.walls.Wall.{Wall}
use Rattle.plane_exact.specs.declared.walls.Wall.TheVariants as wall
use Rattle.plane_exact.specs.Segment.{Crosses}
use Rattle.plane_exact.specs.Figure.{Edge, all_edges, vertices}
use Rattle.plane_exact.specs.Sight.{OnOpenSegment, HasEndNearEdge, HasEndNear}

-- the wall is one of these edges, or one of these vertices
abbrev pub IsAmong : List Edge → List Point → Wall → Type 0
IsAmong list points (wall.Edge from to) = Contains list (record { from = from; to = to })
IsAmong list points (wall.Vertex v) = Contains points v

-- it is a wall of the shape
abbrev pub IsWallOf : Shape → Wall → Type 0
IsWallOf shape it = IsAmong (all_edges shape) (vertices shape) it

-- the points of a wall
abbrev pub wall_points : Wall → List Point
wall_points (wall.Edge from to) = from ∷ to ∷ []
wall_points (wall.Vertex v) = v ∷ []

-- it stops the way from a to b: an edge that the way crosses, or a vertex on it, from which both a and b are farther than t
abbrev pub Stops : Wall → Point → Point → ℕ → Type 0
Stops (wall.Edge from to) a b t = Crosses a b from to × (¬ HasEndNearEdge a b t (record { from = from; to = to }))
Stops (wall.Vertex v) a b t = OnOpenSegment a b v × (¬ HasEndNear a b t v)
