-- The frame of a shape: how far its vertices lie to each side.
use Rattle.std.specs.Prelude.{ℕ, ℤ, pos, ◌+ℤ◌, ◌≤ℤ◌, List, Contains}
use Rattle.venue_types.specs.declared.point.Point.{Point}
use Rattle.venue_types.specs.declared.point.Shape.{Shape}
use Rattle.plane_exact.specs.Figure.{vertices}
use Rattle.opening_match.specs.declared.frame.Frame.{Frame}

-- the position is beyond no side
pub record IsFramedAt (frame : Frame) (p : Point) : Type 0 where
  pub west : frame.west ≤ℤ p.x
  pub east : p.x ≤ℤ frame.east
  pub south : frame.south ≤ℤ p.y
  pub north : p.y ≤ℤ frame.north

-- the latitude is beyond neither side by more than the tolerance
pub record IsAtHeight (frame : Frame) (tolerance : ℕ) (y : ℤ) : Type 0 where
  pub south : frame.south ≤ℤ (y +ℤ pos tolerance)
  pub north : y ≤ℤ (frame.north +ℤ pos tolerance)

-- the longitude is beyond neither side by more than the tolerance
pub record IsAtWidth (frame : Frame) (tolerance : ℕ) (x : ℤ) : Type 0 where
  pub west : frame.west ≤ℤ (x +ℤ pos tolerance)
  pub east : x ≤ℤ (frame.east +ℤ pos tolerance)

-- the new frame has what the old one has, and these points
pub record Grows (old new : Frame) (points : List Point) : Type 0 where
  pub kept : (p : Point) → IsFramedAt old p → IsFramedAt new p
  pub has : (p : Point) → Contains points p → IsFramedAt new p

-- the frame has all vertices of the shape
pub record IsFramed (shape : Shape) (frame : Frame) : Type 0 where
  pub has : (p : Point) → Contains (vertices shape) p → IsFramedAt frame p
