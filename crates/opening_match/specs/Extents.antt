-- How far entries reach.
use Rattle.std.specs.Prelude.{◌≤◌, ◌≤ℤ◌, List, Contains}
use Rattle.venue_types.specs.declared.point.Point.{Point}
use Rattle.opening_match.specs.declared.entries.Entry.{Entry}
use Rattle.opening_match.specs.declared.extents.Extent.{Extent}

-- the position is beyond no side
pub record IsInBox (extent : Extent) (p : Point) : Type 0 where
  pub west : extent.west ≤ℤ p.x
  pub east : p.x ≤ℤ extent.east
  pub south : extent.south ≤ℤ p.y
  pub north : p.y ≤ℤ extent.north

-- the entry is beyond no side, and of no level below the least or above the greatest
pub record IsWithin (extent : Extent) (e : Entry) : Type 0 where
  pub least : extent.least.0 ≤ e.level.0
  pub greatest : e.level.0 ≤ extent.greatest.0
  pub box : IsInBox extent (record { x = e.x; y = e.y })

-- so is each of the entries
abbrev pub IsRound : Extent → List Entry → Type 0
IsRound extent entries = (e : Entry) → Contains entries e → IsWithin extent e
