-- Which openings run along a shape.
use Rattle.std.specs.Prelude.{◌≡◌, ℕ, ◌∷◌, List, Some, All, Contains, slice_get}
use Rattle.venue_types.specs.declared.features.OpeningRow.{OpeningRow}
use Rattle.venue_types.specs.declared.point.Point.{Point}
use Rattle.venue_types.specs.declared.point.Shape.{Shape}
use Rattle.plane_exact.specs.Figure.{AllNearby, vertices, IsNear}

-- each of the positions is nearby the shape
pub record AreNearbyTo (shape : Shape) (points : List Point) : Type 0 where
  pub near : (p : Point) → Contains points p → AllNearby (p ∷ vertices shape)

-- so are the vertices of each of the openings
pub record AreBeside (shape : Shape) (openings : List OpeningRow) : Type 0 where
  pub beside : (opening : OpeningRow) → Contains openings opening → AreNearbyTo shape opening.line.points

-- the opening at this place is there, and each of its vertices is near the border of the shape
pub record RunsAlong (tolerance : ℕ) (openings : List OpeningRow) (shape : Shape) (o : ℕ) : Type 0 where
  pub opening : OpeningRow
  pub there : slice_get openings o ≡ Some opening
  pub near : All (λ p. IsNear p shape tolerance) opening.line.points
