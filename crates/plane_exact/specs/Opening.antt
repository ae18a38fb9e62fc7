-- Which units an opening touches (IMDF 1.0.0, "Opening").
use Rattle.std.specs.Prelude.{◌≡◌, ◌↔◌, ℕ, List, All, Contains, length, slice_get, Some}
use Rattle.std.specs.List.Sorted.{IsStrictlyIncreasing}
use Rattle.venue_types.specs.declared.features.Features.{Features}
use Rattle.venue_types.specs.declared.features.OpeningRow.{OpeningRow}
use Rattle.venue_types.specs.declared.features.UnitRow.{UnitRow}
use Rattle.venue_types.specs.declared.link.Touches as touching
use Rattle.plane_exact.specs.Figure.{IsNear}

-- the opening and the unit are of one level, and each vertex of the opening is near the unit's border
pub record Touches (border_tol : ℕ) (opening : OpeningRow) (unit : UnitRow) : Type 0 where
  pub level : opening.level ≡ unit.level
  pub near : All (λ p. IsNear p unit.shape border_tol) opening.line.points

-- the opening and the unit of these indexes are there, and touch
pub record HaveTouch (border_tol : ℕ) (features : Features) (o u : ℕ) : Type 0 where
  pub opening : OpeningRow
  pub unit : UnitRow
  pub has_opening : slice_get features.openings o ≡ Some opening
  pub has_unit : slice_get features.units u ≡ Some unit
  pub touch : Touches border_tol opening unit

-- a row an opening: the indexes of the units that it touches, rising
pub record AreTouches (border_tol : ℕ) (features : Features) (touches : touching.Touches) : Type 0 where
  pub rows : length touches.rows ≡ length features.openings
  pub rise : All (λ (row : List ℕ). IsStrictlyIncreasing row) touches.rows
  pub exact : (o u : ℕ) (row : List ℕ) → slice_get touches.rows o ≡ Some row → Contains row u ↔ HaveTouch border_tol features o u
