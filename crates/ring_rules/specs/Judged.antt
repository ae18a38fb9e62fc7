-- What holds of rings that are judged, and what is asked of their vertices.
use Rattle.std.specs.Prelude.{List, Contains}
use Rattle.venue_types.specs.declared.point.Point.{Point}
use Rattle.venue_types.specs.declared.point.Ring.{Ring}
use Rattle.venue_types.specs.declared.point.Shape.{Shape}
use Rattle.plane_exact.specs.Figure.{AllClose, ring_points, rings}
use Rattle.ring_rules.specs.Rings.{IsInsideRing, IsOnRing}

-- their positions lie close together
pub record AreFit (list : List Ring) : Type 0 where
  pub close : AllClose (ring_points list)

-- so are the rings of each shape
pub record AreFitShapes (shapes : List Shape) : Type 0 where
  pub fit : (shape : Shape) → Contains shapes shape → AreFit (rings shape)

-- the position is neither inside the ring nor on it
abbrev pub IsOutside : Ring → Point → Type 0
IsOutside ring p = (¬ IsInsideRing p ring) × (¬ IsOnRing p ring)
