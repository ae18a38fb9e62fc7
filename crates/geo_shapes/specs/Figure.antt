-- Lines, rings and polygons: the coordinates of RFC 7946, sections 3.1.4 and 3.1.6.
use Rattle.std.specs.Prelude.{◌≡◌, ◌≢◌, ◌-◌, ◌<◌, ◌≤◌, List, [], ◌∷◌, length, slice_get, Some, Any}
use Rattle.std.specs.List.{AllZip}
use Rattle.exact_json.specs.Json.{Json}
use Rattle.venue_types.specs.declared.point.Point.{Point}
use Rattle.venue_types.specs.declared.point.Line.{Line}
use Rattle.venue_types.specs.declared.point.Ring.{Ring}
use Rattle.venue_types.specs.declared.point.Part.{Part}
use Rattle.geo_shapes.specs.Values.{listed, IsList}
use Rattle.geo_shapes.specs.Position.{IsPosition}

-- two positions or more
pub record IsLine (value : Json) (line : Line) : Type 0 where
  pub points : AllZip IsPosition (listed value) line.points
  pub two : 2 ≤ length line.points

-- four positions or more, of which the last equals the first
pub record IsRing (value : Json) (ring : Ring) : Type 0 where
  pub points : AllZip IsPosition (listed value) ring.points
  pub four : 4 ≤ length ring.points
  pub closed : slice_get ring.points 0 ≡ slice_get ring.points (length ring.points - 1)

-- rings, of which the first is the border and the others are holes
pub record IsPolygon (value : Json) (part : Part) : Type 0 where
  pub rings : AllZip IsRing (listed value) (part.outer ∷ part.holes)

-- the first item and the last are positions that differ after rounding
pub record IsOpen (values : List Json) : Type 0 where
  pub first : Json
  pub last : Json
  pub start : Point
  pub end : Point
  pub first_item : slice_get values 0 ≡ Some first
  pub last_item : slice_get values (length values - 1) ≡ Some last
  pub starts : IsPosition first start
  pub ends : IsPosition last end
  pub apart : start ≢ end

-- in the place of a line, apart from its positions
pub data BreaksLine (value : Json) : Type 0 where
  no_list : ¬ IsList value → BreaksLine value
  too_few : length (listed value) < 2 → BreaksLine value

-- in the place of a ring, apart from its positions
pub data BreaksRing (value : Json) : Type 0 where
  no_list : ¬ IsList value → BreaksRing value
  too_few : length (listed value) < 4 → BreaksRing value
  not_closed : IsOpen (listed value) → BreaksRing value

-- in the place of a polygon, apart from its positions
pub data BreaksPolygon (value : Json) : Type 0 where
  no_list : ¬ IsList value → BreaksPolygon value
  no_ring : listed value ≡ [] → BreaksPolygon value
  bad_ring : Any BreaksRing (listed value) → BreaksPolygon value
