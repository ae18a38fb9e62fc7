-- Positions, lines, rings and shapes that stand for geometries: they lie on the earth, are sound, and have the positions that are counted.
use Rattle.std.proofs.Common.{◌≡◌, ◌≤◌, max, List, [], ◌∷◌, length, Option, Some, None, arith}
use Rattle.std.specs.Prelude.{All}
use Rattle.std.specs.List.{AllZip, flat_map}
use Rattle.std.proofs.lemmas.List.Elements.{All-nil, All-cons}
use Rattle.std.proofs.lemmas.Slice.Zip.{AllZip-long}
use Rattle.venue_types.proofs.Zips.{zip_all}
use Rattle.exact_json.specs.Json.{Json}
use Rattle.venue_types.specs.declared.features.UnitRow.{UnitRow}
use Rattle.venue_types.specs.declared.point.Point.{Point}
use Rattle.venue_types.specs.declared.point.Line.{Line}
use Rattle.venue_types.specs.declared.point.Ring.{Ring}
use Rattle.venue_types.specs.declared.point.Shape.{Shape}
use Rattle.geo_shapes.specs.Values.{listed}
use Rattle.geo_shapes.specs.Position.{IsPosition}
use Rattle.geo_shapes.specs.Figure.{IsRing, IsPolygon}
use Rattle.geo_shapes.specs.Geometry.{coordinates, polygon_places, ring_places, shape_places, line_places, longest_of, HasLine, HasShape}
use Rattle.imdf_schema.specs.declared.table.Property.TheVariants as property
use Rattle.imdf_schema.specs.Items as item
use Rattle.imdf_rows.specs.Fields.{IsDisplay}
use Rattle.imdf_rows.specs.Rows.{IsUnitRow}
use Rattle.plane_exact.specs.Figure.{rings_of, rings, vertices}
use Rattle.feature_rows.specs.Figures.{display_of}
use Rattle.feature_rows.specs.Sound.{IsOnEarth, IsSoundRing, IsSoundShape}
use Rattle.imdf_read.proofs.Lists.{zip_flat, zip_flat_all}

pub position_on_earth : (v : Json) (p : Point) → IsPosition v p → IsOnEarth p
position_on_earth v p is = record { west = is.x.low; east = is.x.high; south = is.y.low; north = is.y.high }

pub line_on_earth : (v : Json) (line : Line) → HasLine v line → All IsOnEarth line.points
line_on_earth v line is = zip_all IsPosition IsOnEarth position_on_earth (line_places v) line.points is.points

-- the positions of a line
pub line_count : (v : Json) (line : Line) → HasLine v line → length line.points ≡ length (line_places v)
line_count v line is = AllZip-long IsPosition (line_places v) line.points is.points

-- the rings of a shape, ring by ring
shape_rings : (v : Json) (shape : Shape) → HasShape v shape → AllZip IsRing (ring_places v) (rings shape)
shape_rings v shape is = zip_flat IsPolygon IsRing listed rings_of (λ w part polygon. polygon.rings) (polygon_places v) shape.parts is.parts

-- its positions, one by one
shape_points : (v : Json) (shape : Shape) → HasShape v shape → AllZip IsPosition (shape_places v) (vertices shape)
shape_points v shape is = zip_flat IsRing IsPosition listed (λ (ring : Ring). ring.points) (λ w ring is_ring. is_ring.points) (ring_places v) (rings shape) (shape_rings v shape is)

pub shape_on_earth : (v : Json) (shape : Shape) → HasShape v shape → All IsOnEarth (vertices shape)
shape_on_earth v shape is = zip_all IsPosition IsOnEarth position_on_earth (shape_places v) (vertices shape) (shape_points v shape is)

pub shape_count : (v : Json) (shape : Shape) → HasShape v shape → length (vertices shape) ≡ length (shape_places v)
shape_count v shape is = AllZip-long IsPosition (shape_places v) (vertices shape) (shape_points v shape is)

sound_ring : (v : Json) (ring : Ring) → length (listed v) ≤ 20000 → IsRing v ring → IsSoundRing ring
sound_ring v ring few is =
    let long : length ring.points ≡ length (listed v) = AllZip-long IsPosition (listed v) ring.points is.points in
    record { four = is.four; few = omega arith; closed = is.closed }

-- where the longest ring has few positions, each has
sound_rings : (vs : List Json) (all : List Ring) → longest_of vs ≤ 20000 → AllZip IsRing vs all → All IsSoundRing all
sound_rings [] [] few zip = All-nil IsSoundRing
sound_rings [] (ring ∷ all) few zip = absurd zip
sound_rings (v ∷ vs) [] few zip = absurd zip
sound_rings (v ∷ vs) (ring ∷ all) few zip =
    let bound : max (length (listed v)) (longest_of vs) ≤ 20000 = few in
    All-cons IsSoundRing ring all (sound_ring v ring (omega arith) zip.0) (sound_rings vs all (omega arith) zip.1)

pub sound_shape : (v : Json) (shape : Shape) → longest_of (ring_places v) ≤ 20000 → HasShape v shape → IsSoundShape shape
sound_shape v shape few is = record { one = is.one; rings = sound_rings (ring_places v) (rings shape) few (shape_rings v shape is) }

-- the row with this display point
abbrev with_display : UnitRow → Option Point → UnitRow
with_display row point = record { id = row.id; level = row.level; shape = row.shape; display = point; category = row.category; restricted = row.restricted; name = row.name }

shown_on_earth : (v : Json) (row : UnitRow) (point : Option Point) → IsDisplay v point → All IsOnEarth (display_of (with_display row point))
shown_on_earth v row None is = All-nil IsOnEarth
shown_on_earth v row (Some p) is = All-cons IsOnEarth p [] (position_on_earth (coordinates v) p is) (All-nil IsOnEarth)

pub displays_on_earth : (vs : List Json) (rows : List UnitRow) → AllZip IsUnitRow vs rows → All IsOnEarth (flat_map display_of rows)
displays_on_earth vs rows zip = zip_flat_all IsUnitRow IsOnEarth display_of
    (λ v row is. shown_on_earth (item.property v property.DisplayPoint) row row.display is.display) vs rows zip
