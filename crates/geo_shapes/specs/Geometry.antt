-- Geometry objects (RFC 7946, section 3.1): what they stand for, and which of their values stand in the place of what.
-- A geometry without coordinates has null there, and another type than "MultiPolygon" is read as "Polygon".
use Rattle.std.specs.Prelude.{◌≡◌, ℕ, ◌≤◌, max, List, [], ◌∷◌, length, Any, Bool, IsTrue, if◌then◌else◌, codes}
use Rattle.std.specs.List.{flat_map, AllZip}
use Rattle.exact_json.specs.Json.{Json, member}
use Rattle.venue_types.specs.declared.point.Point.{Point}
use Rattle.venue_types.specs.declared.point.Line.{Line}
use Rattle.venue_types.specs.declared.point.Shape.{Shape}
use Rattle.geo_shapes.specs.Values.{listed, IsList, is_text}
use Rattle.geo_shapes.specs.Position.{IsPosition}
use Rattle.geo_shapes.specs.Figure.{IsLine, IsPolygon, BreaksLine, BreaksPolygon}

abbrev pub coordinates : Json → Json
coordinates geometry = member geometry (codes "coordinates")

-- its coordinates are a list of polygons (section 3.1.7) and no polygon (section 3.1.6)
abbrev pub is_multi : Json → Bool
is_multi geometry = is_text (member geometry (codes "type")) (codes "MultiPolygon")

-- what stands in the place of a position in a Point
abbrev pub point_places : Json → List Json
point_places geometry = coordinates geometry ∷ []

-- what stands in the place of a position in a LineString
abbrev pub line_places : Json → List Json
line_places geometry = listed (coordinates geometry)

-- what stands in the place of a polygon
abbrev pub polygon_places : Json → List Json
polygon_places geometry = if is_multi geometry then listed (coordinates geometry) else coordinates geometry ∷ []

-- what stands in the place of a ring
abbrev pub ring_places : Json → List Json
ring_places geometry = flat_map listed (polygon_places geometry)

-- what stands in the place of a position in a Polygon or a MultiPolygon
abbrev pub shape_places : Json → List Json
shape_places geometry = flat_map listed (ring_places geometry)

-- the greatest number of places of a position in one ring, 0 where there is no ring
abbrev pub longest_of : List Json → ℕ
longest_of [] = 0
longest_of (ring ∷ rings) = max (length (listed ring)) (longest_of rings)

-- the point that a Point stands for
abbrev pub HasPoint : Json → Point → Type 0
HasPoint geometry point = IsPosition (coordinates geometry) point

-- the line that a LineString stands for
abbrev pub HasLine : Json → Line → Type 0
HasLine geometry line = IsLine (coordinates geometry) line

-- the polygons that a Polygon or a MultiPolygon stands for, one or more
pub record HasShape (geometry : Json) (shape : Shape) : Type 0 where
  pub parts : AllZip IsPolygon (polygon_places geometry) shape.parts
  pub one : 1 ≤ length shape.parts

-- the form of a LineString is broken
abbrev pub BreaksLineForm : Json → Type 0
BreaksLineForm geometry = BreaksLine (coordinates geometry)

-- the form of a Polygon or a MultiPolygon is broken
pub data BreaksShapeForm (geometry : Json) : Type 0 where
  no_list : IsTrue (is_multi geometry) → ¬ IsList (coordinates geometry) → BreaksShapeForm geometry
  no_polygon : polygon_places geometry ≡ [] → BreaksShapeForm geometry
  bad_polygon : Any BreaksPolygon (polygon_places geometry) → BreaksShapeForm geometry
