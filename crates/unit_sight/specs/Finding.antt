-- How the joined pairs of a room are found: named by no public clause.
use Rattle.std.specs.Prelude.{ℕ, ◌<◌, ◌≤◌, ◌++◌, Bool, not, ◌&&◌, ◌||◌, ◌==◌, nat_lt, List, length, map, All}
use Rattle.std.specs.List.{list_all}
use Rattle.venue_types.specs.declared.point.Shape.{Shape}
use Rattle.venue_types.specs.declared.point.Spot.{Spot}
use Rattle.plane_exact.specs.Plane.{IsInRange, IsCloseDoubled}
use Rattle.plane_exact.specs.Figure.{AllNearby, vertices}
use Rattle.plane_exact.specs.Scaled.{times}
use Rattle.plane_exact.specs.Sight.{at_spot}
use Rattle.unit_sight.specs.Joined.{is_guest_of}
use Rattle.unit_sight.specs.Tables.{places, joins}
use Rattle.unit_sight.specs.Rooms.{spot_of}

-- the pairs of a room can be asked: its places, and its shape of which all numbers are taken four times, lie close
pub record FitsRoom (bands : Shape) (spots : List Spot) (t : ℕ) : Type 0 where
  pub near : AllNearby (map (λ (s : Spot). times 2 (at_spot s)) spots ++ vertices bands)
  pub range : All IsInRange (map at_spot spots)
  pub few : length spots ≤ 4096
  pub tolerance : t ≤ 1000000

-- the lengths between places can be asked
pub record FitsLengths (spots : List Spot) (kx ky : ℕ) : Type 0 where
  pub close : (i j : ℕ) → i < length spots → j < length spots → IsCloseDoubled (spot_of spots i) (spot_of spots j)
  pub few : length spots ≤ 4096
  pub kx_range : kx ≤ 20000000
  pub ky_range : ky ≤ 20000000

-- b stands in front of a, and the pair of the two comes before that of i and j
abbrev pub is_front : ℕ → ℕ → ℕ → ℕ → Bool
is_front i j a b = nat_lt b a && (nat_lt a i || ((a == i) && nat_lt b j))

-- what is known once all pairs before that of i and j are asked
abbrev pub asked : (ℕ → ℕ → Bool) → ℕ → ℕ → ℕ → ℕ → Bool
asked sees i j a b = (is_front i j a b || is_front i j b a) && sees a b

-- what is known once all pairs are asked
abbrev pub all_asked : (ℕ → ℕ → Bool) → ℕ → ℕ → Bool
all_asked sees a b = not (a == b) && sees a b

-- whether a row has no true value
abbrev pub is_empty_row : List (List Bool) → ℕ → Bool
is_empty_row table i = list_all (λ j. not (joins table i j)) (places (length table))

-- one of the two is the other's guest, of the guests below i
abbrev pub are_tied : (ℕ → ℕ → Bool) → (ℕ → ℕ → ℕ) → ℕ → ℕ → ℕ → ℕ → Bool
are_tied sees far n i a b = (nat_lt a i && is_guest_of sees far (places n) a b) || (nat_lt b i && is_guest_of sees far (places n) b a)

-- one of the two is a, and the other is its host
abbrev pub are_tied_at : (ℕ → ℕ → Bool) → (ℕ → ℕ → ℕ) → ℕ → ℕ → ℕ → ℕ → Bool
are_tied_at sees far n a i j = ((i == a) && is_guest_of sees far (places n) a j) || ((j == a) && is_guest_of sees far (places n) a i)
