-- The figure of a feature.
use Rattle.exact_json.specs.Json.{Json}
use Rattle.geo_shapes.specs.Geometry.{HasPoint, HasLine, HasShape}
use Rattle.venue_types.specs.declared.folder_file.Geometry.{Geometry}
use Rattle.venue_types.specs.declared.folder_file.Geometry.TheVariants as kind
use Rattle.imdf_schema.specs.Items.{geometry}
use Rattle.imdf_rows.specs.declared.figure.Figure.{Figure}
use Rattle.imdf_rows.specs.declared.figure.Figure.TheVariants as figure

-- the geometry stands for this point
abbrev pub HasPointFigure : Json → Figure → Type 0
HasPointFigure v (figure.Point p) = HasPoint v p
HasPointFigure v _ = ⊥

-- the geometry stands for this line
abbrev pub HasLineFigure : Json → Figure → Type 0
HasLineFigure v (figure.Line l) = HasLine v l
HasLineFigure v _ = ⊥

-- the geometry stands for this shape
abbrev pub HasShapeFigure : Json → Figure → Type 0
HasShapeFigure v (figure.Shape s) = HasShape v s
HasShapeFigure v _ = ⊥

-- the figure of an item whose geometry is to be of this kind, where one is asked for
abbrev pub HasFigure : Geometry → Json → Figure → Type 0
HasFigure kind.Null item f = Unit {0}
HasFigure kind.Point item f = HasPointFigure (geometry item) f
HasFigure kind.Line item f = HasLineFigure (geometry item) f
HasFigure kind.Shape item f = HasShapeFigure (geometry item) f
HasFigure kind.Unjudged item f = Unit {0}
