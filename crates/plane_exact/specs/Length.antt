-- The length between two doubled positions, in whole centimetres.
use Rattle.std.specs.Prelude.{ℕ, ℤ, ◌*◌, ◌^◌, ◌≤◌, pos, ◌+ℤ◌, ◌-ℤ◌, ◌*ℤ◌, ◌≤ℤ◌}
use Rattle.venue_types.specs.declared.point.Spot.{Spot}
use Rattle.plane_exact.specs.Plane.{square}

-- the square of the length in centimetres, times 4 * 10^18, where a degree has kx centimetres of longitude and ky of latitude:
-- a doubled coordinate counts half nanodegrees, of which a degree has 2 * 10^9
unfoldable pub scaled_square : Spot → Spot → ℕ → ℕ → ℤ
scaled_square a b kx ky = square ((b.x -ℤ a.x) *ℤ pos kx) +ℤ square ((b.y -ℤ a.y) *ℤ pos ky)

-- c centimetres are no shorter than the way from a to b
pub record Spans (a b : Spot) (kx ky c : ℕ) : Type 0 where
  pub spans : scaled_square a b kx ky ≤ℤ pos (4 * 10 ^ 18 * (c * c))

-- c is the length from a to b, rounded up to whole centimetres: the least number that spans it
pub record IsLength (a b : Spot) (kx ky c : ℕ) : Type 0 where
  pub spans : Spans a b kx ky c
  pub least : (n : ℕ) → Spans a b kx ky n → c ≤ n
