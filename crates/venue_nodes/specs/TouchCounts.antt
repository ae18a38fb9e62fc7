-- How many openings touch units, and when they are more than any venue may have.
use Rattle.std.specs.Prelude.{◌≡◌, ◌≢◌, ◌⊎◌, ◌↔◌, ℕ, ◌+◌, ◌<◌, ◌≤◌, List, [], ◌∷◌, Some, AllPairs, Contains, IsTrue, length, slice_get, if◌then◌else◌}
use Rattle.venue_types.specs.declared.features.OpeningRow.{OpeningRow}
use Rattle.venue_types.specs.declared.features.UnitRow.{UnitRow}
use Rattle.plane_exact.specs.Opening.{Touches}
use Rattle.imdf_access.specs.Categories.{is_walkable}

-- the opening at this place is there, and touches the unit
pub record TouchesAt (tolerance : ℕ) (openings : List OpeningRow) (unit : UnitRow) (o : ℕ) : Type 0 where
  pub opening : OpeningRow
  pub there : slice_get openings o ≡ Some opening
  pub touch : Touches tolerance opening unit

-- the places of the openings that touch the unit, each once
pub record AreMatches (tolerance : ℕ) (openings : List OpeningRow) (unit : UnitRow) (places : List ℕ) : Type 0 where
  pub exact : (o : ℕ) → Contains places o ↔ TouchesAt tolerance openings unit o
  pub distinct : AllPairs (λ (a b : ℕ). a ≢ b) places

-- so many openings touch the unit
pub record IsTouchedBy (tolerance : ℕ) (openings : List OpeningRow) (unit : UnitRow) (count : ℕ) : Type 0 where
  pub places : List ℕ
  pub are : AreMatches tolerance openings unit places
  pub long : length places ≡ count

-- the unit of this index is there, and so many openings touch it
pub record IsCounted (tolerance : ℕ) (openings : List OpeningRow) (units : List UnitRow) (k count : ℕ) : Type 0 where
  pub unit : UnitRow
  pub there : slice_get units k ≡ Some unit
  pub touched : IsTouchedBy tolerance openings unit count

-- how many openings touch each of the first units
abbrev pub AreCounts : ℕ → List OpeningRow → List UnitRow → List ℕ → Type 0
AreCounts tolerance openings units counts = (k count : ℕ) → slice_get counts k ≡ Some count → IsCounted tolerance openings units k count

-- the count, where people walk in the unit
abbrev pub walked_part : UnitRow → ℕ → ℕ
walked_part unit count = if is_walkable unit.category then count else 0

-- how often openings touch those of the first units in which people walk
abbrev pub walked_sum : List UnitRow → List ℕ → ℕ
walked_sum [] counts = 0
walked_sum (unit ∷ units) [] = 0
walked_sum (unit ∷ units) (count ∷ counts) = walked_part unit count + walked_sum units counts

-- people walk in one of the first units, and more than 4,095 openings touch it
pub record HasFull (units : List UnitRow) (counts : List ℕ) : Type 0 where
  pub k : ℕ
  pub unit : UnitRow
  pub count : ℕ
  pub there : slice_get units k ≡ Some unit
  pub counted : slice_get counts k ≡ Some count
  pub walkable : IsTrue (is_walkable unit.category)
  pub full : 4095 < count

-- none of the units in which people walk is touched by more than 4,095 openings, and together they are touched no more than 20,000,000
-- times
pub record TouchFew (border_tol : ℕ) (openings : List OpeningRow) (units : List UnitRow) : Type 0 where
  pub counts : List ℕ
  pub are : AreCounts border_tol openings units counts
  pub whole : length counts ≡ length units
  pub roomy : ¬ HasFull units counts
  pub few : walked_sum units counts ≤ 20000000

-- the counts of the first units show that they are touched more: one of these by more than 4,095 openings; or all are counted, and
-- together they are touched more than 20,000,000 times
pub record TouchMany (border_tol : ℕ) (openings : List OpeningRow) (units : List UnitRow) (counts : List ℕ) : Type 0 where
  pub are : AreCounts border_tol openings units counts
  pub many : HasFull units counts ⊎ ((length counts ≡ length units) × (20000000 < walked_sum units counts))
