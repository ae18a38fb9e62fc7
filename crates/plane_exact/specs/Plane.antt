-- Positions of the plane in whole nanodegrees, and the whole numbers that predicates compare.
use Rattle.std.specs.Prelude.{ℕ, ℤ, pos, ◌+ℤ◌, ◌-ℤ◌, ◌*ℤ◌, ◌≤ℤ◌}
use Rattle.venue_types.specs.declared.point.Point.{Point}
use Rattle.venue_types.specs.declared.point.Spot.{Spot}

-- the two coordinates differ by at most the bound
pub record IsWithin (bound : ℕ) (m n : ℤ) : Type 0 where
  pub above : m ≤ℤ (n +ℤ pos bound)
  pub below : n ≤ℤ (m +ℤ pos bound)

-- the two positions differ by at most 200,000,000 nanodegrees on each axis
pub record IsClose (a b : Point) : Type 0 where
  pub x : IsWithin 200000000 a.x b.x
  pub y : IsWithin 200000000 a.y b.y

-- the same of two doubled positions
pub record IsCloseDoubled (a b : Spot) : Type 0 where
  pub x : IsWithin 400000000 a.x b.x
  pub y : IsWithin 400000000 a.y b.y

-- the two positions differ by at most 800,000,000 on each axis, as close positions do of which all numbers are taken four times
pub record IsNearby (a b : Point) : Type 0 where
  pub x : IsWithin 800000000 a.x b.x
  pub y : IsWithin 800000000 a.y b.y

-- the coordinates are at most 2 * 10^18 on both sides of 0, so that four times them are numbers of 64 bits
pub record IsInRange (p : Point) : Type 0 where
  pub x : IsWithin 2000000000000000000 p.x (pos 0)
  pub y : IsWithin 2000000000000000000 p.y (pos 0)

-- the square of a whole number
unfoldable pub square : ℤ → ℤ
square n = n *ℤ n

-- above 0 where p lies to the left of the line from a to b, below 0 to its right, 0 on it: the cross product of b - a and p - a
unfoldable pub side : Point → Point → Point → ℤ
side a b p = (b.x -ℤ a.x) *ℤ (p.y -ℤ a.y) -ℤ (b.y -ℤ a.y) *ℤ (p.x -ℤ a.x)

-- how far p lies along the line from a to b, times the length of ab: the scalar product of b - a and p - a
unfoldable pub along : Point → Point → Point → ℤ
along a b p = (b.x -ℤ a.x) *ℤ (p.x -ℤ a.x) +ℤ (b.y -ℤ a.y) *ℤ (p.y -ℤ a.y)

-- the square of the distance
unfoldable pub squared_distance : Point → Point → ℤ
squared_distance a b = square (b.x -ℤ a.x) +ℤ square (b.y -ℤ a.y)
