-- Lines from point to point, and the coordinates along which they are compared.
use Rattle.std.specs.Prelude.{◌≡◌, ℕ, ◌+◌, ◌<◌, ℤ, pos, ◌+ℤ◌, ◌-ℤ◌, ◌*ℤ◌, ◌≤ℤ◌, ◌<ℤ◌, ◌⊎◌, List, [], ◌∷◌}
use Rattle.venue_types.specs.declared.point.Point.{Point}

-- the end of the line from a through the points
abbrev pub last_from : Point → List Point → Point
last_from a [] = a
last_from a (b ∷ rest) = last_from b rest

-- the last point equals the first
abbrev pub IsClosed : List Point → Type 0
IsClosed [] = Unit {0}
IsClosed (a ∷ rest) = last_from a rest ≡ a

-- where the line through q with the slope 1/k meets the axis of longitude: x at k = 0, x + y at k = -1, x - y at k = 1
abbrev pub slant : ℤ → Point → ℤ
slant k q = q.x -ℤ (k *ℤ q.y)

-- one of a and b is at the height of p or below it, the other above it
abbrev pub IsBetween : Point → Point → Point → Type 0
IsBetween p a b = ((a.y ≤ℤ p.y) × (p.y <ℤ b.y)) ⊎ ((b.y ≤ℤ p.y) × (p.y <ℤ a.y))

-- four ways to compare positions
pub data Direction : Type 0 where
  Longitude : Direction
  Latitude : Direction
  Rising : Direction
  Falling : Direction

-- the coordinate of q in a direction: x, y, x + y or x - y
abbrev pub coordinate : Direction → Point → ℤ
coordinate Longitude q = q.x
coordinate Latitude q = q.y
coordinate Rising q = q.x +ℤ q.y
coordinate Falling q = q.x -ℤ q.y

-- how far the coordinate changes at most where x and y change by at most 1
abbrev pub stretch : Direction → ℕ
stretch Longitude = 1
stretch Latitude = 1
stretch Rising = 2
stretch Falling = 2

-- a point of both segments ab and cd, cleared of its fraction: u * a + s * b and v * c + r * d, with as many parts in all
pub record CommonPoint (a b c d : Point) (u s v r : ℕ) : Type 0 where
  pub first : 0 < u
  pub second : 0 < s
  pub third : 0 < v
  pub fourth : 0 < r
  pub parts : u + s ≡ v + r
  pub x : (pos u *ℤ a.x) +ℤ (pos s *ℤ b.x) ≡ (pos v *ℤ c.x) +ℤ (pos r *ℤ d.x)
  pub y : (pos u *ℤ a.y) +ℤ (pos s *ℤ b.y) ≡ (pos v *ℤ c.y) +ℤ (pos r *ℤ d.y)

-- there is such a point
abbrev pub HaveCommonPoint : (a b c d : Point) → Type 0
HaveCommonPoint a b c d = (u s v r : ℕ) × CommonPoint a b c d u s v r
