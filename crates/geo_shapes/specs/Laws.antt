-- A geometry stands for one figure at most.
use Rattle.std.specs.Prelude.{◌≡◌}
use Rattle.exact_json.specs.Json.{Json}
use Rattle.venue_types.specs.declared.point.Point.{Point}
use Rattle.venue_types.specs.declared.point.Line.{Line}
use Rattle.venue_types.specs.declared.point.Shape.{Shape}
use Rattle.geo_shapes.specs.Geometry.{HasPoint, HasLine, HasShape}

abbrev pub HasOnePoint : Type 0
HasOnePoint = (geometry : Json) (p q : Point) → HasPoint geometry p → HasPoint geometry q → p ≡ q

abbrev pub HasOneLine : Type 0
HasOneLine = (geometry : Json) (l m : Line) → HasLine geometry l → HasLine geometry m → l ≡ m

abbrev pub HasOneShape : Type 0
HasOneShape = (geometry : Json) (s t : Shape) → HasShape geometry s → HasShape geometry t → s ≡ t
