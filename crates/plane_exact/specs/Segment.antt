-- Segments: which cross, and which are near a position.
use Rattle.std.specs.Prelude.{ℕ, ℤ, ◌*◌, pos, ◌*ℤ◌, ◌+ℤ◌, ◌-ℤ◌, ◌≤ℤ◌, ◌<ℤ◌, ◌<◌, ◌≤◌, ◌⊎◌}
use Rattle.venue_types.specs.declared.point.Point.{Point}
use Rattle.plane_exact.specs.Plane.{side, along, squared_distance, square}

-- one of the two numbers is above 0 and the other is below
abbrev pub HaveOppositeSigns : ℤ → ℤ → Type 0
HaveOppositeSigns m n = ((m <ℤ pos 0) × (pos 0 <ℤ n)) ⊎ ((pos 0 <ℤ m) × (n <ℤ pos 0))

-- each of ab and cd has its ends on the two sides of the line through the other; an end on that line is no crossing
pub record Crosses (a b c d : Point) : Type 0 where
  pub across_first : HaveOppositeSigns (side a b c) (side a b d)
  pub across_second : HaveOppositeSigns (side c d a) (side c d b)

-- the distance of p to the segment ab is at most t: to a where p lies before a, to b where it lies beyond b, else to the line
pub record IsNearEdge (p a b : Point) (t : ℕ) : Type 0 where
  pub before : along a b p ≤ℤ pos 0 → squared_distance a p ≤ℤ pos (t * t)
  pub beyond : pos 0 <ℤ along a b p → squared_distance a b ≤ℤ along a b p → squared_distance b p ≤ℤ pos (t * t)
  pub beside : pos 0 <ℤ along a b p → along a b p <ℤ squared_distance a b → square (side a b p) ≤ℤ (pos (t * t) *ℤ squared_distance a b)

-- the position at the part m/n of the way from a to b is no farther than t from p, cleared of the fraction: n * n times both squares
pub record ReachesAt (p a b : Point) (t m n : ℕ) : Type 0 where
  pub reach : (square ((pos n *ℤ (p.x -ℤ a.x)) -ℤ (pos m *ℤ (b.x -ℤ a.x))) +ℤ square ((pos n *ℤ (p.y -ℤ a.y)) -ℤ (pos m *ℤ (b.y -ℤ a.y)))) ≤ℤ pos ((n * n) * (t * t))

-- some position of the segment ab, at a part m/n of the way, is no farther than t from p
abbrev pub HasPositionNear : (p a b : Point) (t : ℕ) → Type 0
HasPositionNear p a b t = (m n : ℕ) × (0 < n) × (m ≤ n) × ReachesAt p a b t m n
