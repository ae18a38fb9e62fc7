-- The text of geometries. A place is so many metres east and north of 10 degrees east and 50 degrees north, and a metre is
-- 0.00001 degrees either way.
use Rattle.std.specs.Prelude.{ℕ, List, ◌++◌, codes}
use Rattle.gen_text.specs.Numbers.{padded}
use Rattle.gen_text.specs.declared.geometry.Place.{Place}

abbrev pub at_place : ℕ → ℕ → Place
at_place x y = record { x = x; y = y }

-- [10.00xxx,50.00yyy]
unfoldable pub position : Place → List ℕ
position p = codes "[10.00" ++ padded 3 p.x ++ codes ",50.00" ++ padded 3 p.y ++ codes "]"

-- the corners of a box, from its first one east, north, west and back
unfoldable pub ring : Place → Place → List ℕ
ring from to =
    position from
    ++ codes "," ++ position (at_place to.x from.y)
    ++ codes "," ++ position to
    ++ codes "," ++ position (at_place from.x to.y)
    ++ codes "," ++ position from

-- a polygon of one ring
unfoldable pub box_text : Place → Place → List ℕ
box_text from to = codes "{\"type\":\"Polygon\",\"coordinates\":[[" ++ ring from to ++ codes "]]}"

-- a line of two positions
unfoldable pub line_text : Place → Place → List ℕ
line_text from to = codes "{\"type\":\"LineString\",\"coordinates\":[" ++ position from ++ codes "," ++ position to ++ codes "]}"
