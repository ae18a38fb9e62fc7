-- Positions (RFC 7946, section 3.1.1), in whole nanodegrees.
use Rattle.std.specs.Prelude.{◌≡◌, ℕ, ℤ, pos, neg_ℤ, ◌≤ℤ◌, List, ◌∷◌, Any, Some}
use Rattle.exact_json.specs.Json.{Json, token}
use Rattle.geo_decimal.specs.Value.{IsNano}
use Rattle.venue_types.specs.declared.point.Point.{Point}
use Rattle.geo_shapes.specs.Values.{listed}

-- half a turn, and a quarter of one, in nanodegrees
abbrev pub half_turn : ℕ
half_turn = 180000000000

abbrev pub quarter_turn : ℕ
quarter_turn = 90000000000

-- a number of degrees is n nanodegrees after rounding, and at most the limit away from 0
pub record IsAngle (limit : ℕ) (value : Json) (n : ℤ) : Type 0 where
  pub digits : List ℕ
  pub number : token value ≡ Some digits
  pub nano : IsNano digits n
  pub low : neg_ℤ (pos limit) ≤ℤ n
  pub high : n ≤ℤ pos limit

-- a list of longitude, latitude, and further items, which are passed over
pub record IsPosition (value : Json) (point : Point) : Type 0 where
  pub longitude : Json
  pub latitude : Json
  pub further : List Json
  pub items : listed value ≡ longitude ∷ latitude ∷ further
  pub x : IsAngle half_turn longitude point.x
  pub y : IsAngle quarter_turn latitude point.y

-- the value is no position
abbrev pub IsNoPosition : Json → Type 0
IsNoPosition value = (point : Point) → ¬ IsPosition value point

-- one of the values that stand in the place of a position is none
abbrev pub BreaksPositions : List Json → Type 0
BreaksPositions places = Any IsNoPosition places
