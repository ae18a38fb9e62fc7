-- Where the tests' positions lie.
use Rattle.std.specs.Prelude.{pos}
use Rattle.venue_types.specs.declared.point.Point.{Point}
use Rattle.venue_types.specs.declared.point.Spot.{Spot}
use Rattle.plane_exact.specs.Plane.{IsWithin}

-- at most 100,000,000 from the middle on each axis
pub record IsInBox (a : Point) : Type 0 where
  pub x : IsWithin 100000000 a.x (pos 0)
  pub y : IsWithin 100000000 a.y (pos 0)

-- at most 400,000,000
pub record IsInWideBox (a : Point) : Type 0 where
  pub x : IsWithin 400000000 a.x (pos 0)
  pub y : IsWithin 400000000 a.y (pos 0)

-- at most 200,000,000 from it, of a doubled position
pub record IsInDoubledBox (a : Spot) : Type 0 where
  pub x : IsWithin 200000000 a.x (pos 0)
  pub y : IsWithin 200000000 a.y (pos 0)
