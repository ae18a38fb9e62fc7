-- What a row has where a geometry was read into no figure of its kind.
use Rattle.std.specs.Prelude.{[], pos}
use Rattle.venue_types.specs.declared.point.Point.{Point}
use Rattle.venue_types.specs.declared.point.Line.{Line}
use Rattle.venue_types.specs.declared.point.Shape.{Shape}
use Rattle.imdf_rows.specs.declared.figure.Figure.{Figure}
use Rattle.imdf_rows.specs.declared.figure.Figure.TheVariants as figure

-- the point, and that of longitude and latitude 0 where there is none
abbrev pub point_or_origin : Figure → Point
point_or_origin (figure.Point p) = p
point_or_origin _ = record { x = pos 0; y = pos 0 }

-- the line, and that of no points where there is none
abbrev pub line_or_empty : Figure → Line
line_or_empty (figure.Line l) = l
line_or_empty _ = record { points = [] }

-- the shape, and that of no parts where there is none
abbrev pub shape_or_empty : Figure → Shape
shape_or_empty (figure.Shape s) = s
shape_or_empty _ = record { parts = [] }
