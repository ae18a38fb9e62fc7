-- How rows of units grow, unit by unit.
use Rattle.std.specs.Prelude.{◌≡◌, ◌≢◌, ℕ, ◌<◌, [], ◌∷◌, ◌++◌, ◌↔◌, List, Some, All, Contains, length, slice_get}
use Rattle.std.specs.List.Sorted.{IsStrictlyIncreasing}
use Rattle.venue_types.specs.declared.features.OpeningRow.{OpeningRow}
use Rattle.venue_types.specs.declared.features.UnitRow.{UnitRow}
use Rattle.venue_nodes.specs.TouchCounts.{TouchesAt}

-- the row at this place has the unit at its end, and the others stay
pub record GainsAt (place unit : ℕ) (old new : List (List ℕ)) : Type 0 where
  pub count : length new ≡ length old
  pub chosen : (row : List ℕ) → slice_get old place ≡ Some row → slice_get new place ≡ Some (row ++ unit ∷ [])
  pub others : (o : ℕ) → o ≢ place → slice_get new o ≡ slice_get old o

-- the rows at these places have the unit at their ends, and the others stay
pub record GainsUnit (unit : ℕ) (places : List ℕ) (old new : List (List ℕ)) : Type 0 where
  pub count : length new ≡ length old
  pub chosen : (o : ℕ) (row : List ℕ) → Contains places o → slice_get old o ≡ Some row → slice_get new o ≡ Some (row ++ unit ∷ [])
  pub others : (o : ℕ) → ¬ Contains places o → slice_get new o ≡ slice_get old o

-- the opening and the unit at these places are there, and touch
pub record HaveMatch (tolerance : ℕ) (openings : List OpeningRow) (units : List UnitRow) (o u : ℕ) : Type 0 where
  pub unit : UnitRow
  pub there : slice_get units u ≡ Some unit
  pub touch : TouchesAt tolerance openings unit o

-- a row an opening: those of the first units, so many, that it touches, rising
pub record AreRowsBelow (tolerance : ℕ) (openings : List OpeningRow) (units : List UnitRow) (count : ℕ) (rows : List (List ℕ)) : Type 0 where
  pub all : length rows ≡ length openings
  pub rise : All (λ (row : List ℕ). IsStrictlyIncreasing row) rows
  pub exact : (o u : ℕ) (row : List ℕ) → slice_get rows o ≡ Some row → Contains row u ↔ ((u < count) × HaveMatch tolerance openings units o u)
