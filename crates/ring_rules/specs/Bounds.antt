-- How far positions lie apart on an axis, and on both.
use Rattle.std.specs.Prelude.{◌≡◌, ◌^◌, ◌-◌, ℤ, pos, neg_ℤ, ◌+ℤ◌, ◌≤ℤ◌, ◌<ℤ◌, ◌⊎◌, List, Contains}
use Rattle.venue_types.specs.declared.point.Point.{Point}
use Rattle.plane_exact.specs.Plane.{IsClose}
use Rattle.ring_rules.specs.declared.bounds.Extent.{Extent}
use Rattle.ring_rules.specs.declared.bounds.Bounds.{Bounds}

-- the number is one of the positions' on the axis, or it is the one that stands for none
abbrev pub IsReached : (Point → ℤ) → List Point → ℤ → ℤ → Type 0
IsReached axis points number none = (number ≡ none) ⊎ ((p : Point) × Contains points p × (axis p ≡ number))

-- the least and the greatest of the positions' numbers on the axis; of no positions, the greatest and the least of all numbers
pub record IsExtent (axis : Point → ℤ) (points : List Point) (extent : Extent) : Type 0 where
  pub above : (p : Point) → Contains points p → extent.least ≤ℤ axis p
  pub below : (p : Point) → Contains points p → axis p ≤ℤ extent.greatest
  pub least : IsReached axis points extent.least (pos (2 ^ 63 - 1))
  pub greatest : IsReached axis points extent.greatest (neg_ℤ (pos (2 ^ 63)))

-- the same on both axes
pub record AreBounds (points : List Point) (bounds : Bounds) : Type 0 where
  pub x : IsExtent (λ p. p.x) points bounds.x
  pub y : IsExtent (λ p. p.y) points bounds.y

-- the least and the greatest are more than 200,000,000 nanodegrees apart
abbrev pub IsWide : Extent → Type 0
IsWide extent = (extent.least +ℤ pos 200000000) <ℤ extent.greatest

-- two of the positions are not close
pub record HaveFarPair (points : List Point) : Type 0 where
  pub one : Point
  pub other : Point
  pub has_one : Contains points one
  pub has_other : Contains points other
  pub apart : ¬ IsClose one other
