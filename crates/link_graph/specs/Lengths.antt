-- The length between two doubled positions as a number that is computed plainly.
use Rattle.std.specs.Prelude.{ℕ, zero, suc, ◌+◌, ◌*◌, ◌^◌, pos, int_le, Bool, if◌then◌else◌}
use Rattle.venue_types.specs.declared.point.Spot.{Spot}
use Rattle.plane_exact.specs.Length.{scaled_square}

-- whether c centimetres are no shorter than the way from a to b
unfoldable pub does_span : Spot → Spot → ℕ → ℕ → ℕ → Bool
does_span a b kx ky c = int_le (scaled_square a b kx ky) (pos (4 * 10 ^ 18 * (c * c)))

-- the first number from n on at which the test holds, after so many that fail at most
abbrev pub first_from : (ℕ → Bool) → ℕ → ℕ → ℕ
first_from test zero n = n
first_from test (suc more) n = if test n then n else first_from test more (n + 1)

-- the length from a to b in whole centimetres, rounded up: the least number that spans it, which is at most 5,700,000
-- between close positions
unfoldable pub length_between : Spot → Spot → ℕ → ℕ → ℕ
length_between a b kx ky = first_from (does_span a b kx ky) 5700000 0
