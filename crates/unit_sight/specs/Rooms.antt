-- The places of a room, and which of them are joined.
use Rattle.std.specs.Prelude.{ℕ, pos, ◌<◌, Bool, List, length, get_or}
use Rattle.venue_types.specs.declared.point.Shape.{Shape}
use Rattle.venue_types.specs.declared.point.Spot.{Spot}
use Rattle.plane_exact.specs.Length.{IsLength}
use Rattle.plane_exact.specs.Seeing.{does_see}
use Rattle.unit_sight.specs.Joined.{is_joined}
use Rattle.unit_sight.specs.Tables.{places, table_of}

-- the spot of a place
abbrev pub spot_of : List Spot → ℕ → Spot
spot_of spots i = get_or spots i (record { x = pos 0; y = pos 0 })

-- whether two places see each other
abbrev pub sees_in : Shape → List Spot → ℕ → ℕ → ℕ → Bool
sees_in shape spots t i j = does_see (spot_of spots i) (spot_of spots j) shape t

-- far tells the lengths between places
pub record AreLengths (spots : List Spot) (kx ky : ℕ) (far : ℕ → ℕ → ℕ) : Type 0 where
  pub lengths : (i j : ℕ) → i < length spots → j < length spots → IsLength (spot_of spots i) (spot_of spots j) kx ky (far i j)

-- which places of the room are joined
abbrev pub joined_places : Shape → List Spot → ℕ → (ℕ → ℕ → ℕ) → List (List Bool)
joined_places shape spots t far = table_of (length spots) (is_joined (sees_in shape spots t) far (places (length spots)))
