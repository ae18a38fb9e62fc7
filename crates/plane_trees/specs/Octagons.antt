-- How the code keeps where a run of edges lies: machinery of `Bands`, named by no public clause.
use Rattle.std.specs.Prelude.{◌≡◌, ℕ, ◌*◌, ℤ, pos, ◌+ℤ◌, ◌-ℤ◌, ◌≤ℤ◌, ◌<ℤ◌, ◌⊎◌, List, All}
use Rattle.venue_types.specs.declared.point.Point.{Point}
use Rattle.plane_trees.specs.declared.octagons.Band.{Band}
use Rattle.plane_trees.specs.declared.octagons.Octagon.{Octagon}
use Rattle.plane_trees.specs.declared.octagons.Offset.{Offset}
use Rattle.plane_trees.specs.declared.octagons.Sight.{Sight}
use Rattle.plane_trees.specs.declared.octagons.Sight.TheVariants.{Missed, Before, Among}
use Rattle.plane_trees.specs.Line.{Direction, Longitude, Latitude, Rising, Falling, coordinate, stretch}

-- a position's coordinate, counted from the origin
abbrev pub offset : Direction → Point → Point → ℤ
offset way origin q = coordinate way q -ℤ coordinate way origin

-- the coordinate that is kept for a direction
abbrev pub kept : Direction → Offset → ℤ
kept Longitude place = place.x
kept Latitude place = place.y
kept Rising place = place.sum
kept Falling place = place.difference

-- the place is that of q
abbrev pub IsOffset : Offset → Point → Point → Type 0
IsOffset place origin q = (way : Direction) → kept way place ≡ offset way origin q

-- the band of a direction
abbrev pub band : Direction → Octagon → Band
band Longitude octagon = octagon.x
band Latitude octagon = octagon.y
band Rising octagon = octagon.sum
band Falling octagon = octagon.difference

-- the number lies in the band
pub record IsInBand (range : Band) (n : ℤ) : Type 0 where
  pub least : range.least ≤ℤ n
  pub greatest : n ≤ℤ range.greatest

-- the band reaches to within t of the number
pub record IsAtBand (range : Band) (n : ℤ) (t : ℕ) : Type 0 where
  pub least : range.least ≤ℤ (n +ℤ pos t)
  pub greatest : (n -ℤ pos t) ≤ℤ range.greatest

-- one band ends below the other
abbrev pub AreApart : Band → Band → Type 0
AreApart one other = (one.greatest <ℤ other.least) ⊎ (other.greatest <ℤ one.least)

-- the octagon lies round the points
abbrev pub IsRound : Octagon → Point → List Point → Type 0
IsRound octagon origin points = (way : Direction) → All (λ q. IsInBand (band way octagon) (offset way origin q)) points

-- the ray from the place runs below the octagon, over it or away from it
pub data IsMissed (octagon : Octagon) (place : Offset) : Type 0 where
  below : place.y <ℤ octagon.y.least → IsMissed octagon place
  over : octagon.y.greatest ≤ℤ place.y → IsMissed octagon place
  past_x : octagon.x.greatest <ℤ place.x → IsMissed octagon place
  past_sum : octagon.sum.greatest <ℤ place.sum → IsMissed octagon place
  past_difference : octagon.difference.greatest <ℤ place.difference → IsMissed octagon place

-- the octagon lies to the east of the place
pub data IsBefore (octagon : Octagon) (place : Offset) : Type 0 where
  before_x : place.x <ℤ octagon.x.least → IsBefore octagon place
  before_sum : place.sum <ℤ octagon.sum.least → IsBefore octagon place
  before_difference : place.difference <ℤ octagon.difference.least → IsBefore octagon place

-- what is known of the octagon as seen from the place
abbrev pub IsSeen : Octagon → Offset → Sight → Type 0
IsSeen octagon place Missed = IsMissed octagon place
IsSeen octagon place Before = IsBefore octagon place
IsSeen octagon place Among = Unit {0}
