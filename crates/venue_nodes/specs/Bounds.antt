-- The box round some points, as it is gathered point by point: the code's own machinery, which no public contract cites.
use Rattle.std.specs.Prelude.{List, fold, All, ◌++◌}
use Rattle.std.specs.Int.{int_min, int_max}
use Rattle.venue_types.specs.declared.point.Point.{Point}
use Rattle.feature_rows.specs.Sound.{IsOnEarth}
use Rattle.feature_rows.specs.Figures.{display_of}
use Rattle.plane_exact.specs.Figure.{vertices}
use Rattle.venue_nodes.specs.declared.spots.Bounds.{Bounds}
use Rattle.venue_nodes.specs.Nodes.{NodeRow, amenity, anchor, opening, unit, corner}

-- with one more point
abbrev pub with_point : Bounds → Point → Bounds
with_point b p = record { west = int_min b.west p.x; east = int_max b.east p.x; south = int_min b.south p.y; north = int_max b.north p.y }

-- with these points
abbrev pub with_all : Bounds → List Point → Bounds
with_all b points = fold with_point b points

-- the positions from which a node's spot is made lie on the earth
abbrev pub IsPlaced : NodeRow → Type 0
IsPlaced (amenity row) = IsOnEarth row.point
IsPlaced (anchor row) = IsOnEarth row.point
IsPlaced (opening row) = All IsOnEarth row.line.points
IsPlaced (unit row) = All IsOnEarth (vertices row.shape ++ display_of row)
IsPlaced (corner row n p) = IsOnEarth p
