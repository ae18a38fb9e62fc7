-- Shapes made ready: what they need, and which they are.
use Rattle.std.specs.Prelude.{◌≡◌, List, Contains}
use Rattle.venue_types.specs.declared.point.Shape.{Shape}
use Rattle.plane_exact.specs.Figure.{AllClose, vertices}

-- any two positions of each of the shapes are close
pub record AreCloseShapes (shapes : List Shape) : Type 0 where
  pub close : (shape : Shape) → Contains shapes shape → AllClose (vertices shape)

-- the bands stand for these shapes, place by place: a contract sees bands as the shape that they were made of
abbrev pub AreBanded : List Shape → List Shape → Type 0
AreBanded shapes bands = bands ≡ shapes
