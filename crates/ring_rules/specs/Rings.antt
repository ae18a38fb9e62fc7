-- Rings and their holes (RFC 7946, section 3.1.6): which cross themselves or lie outside.
use Rattle.std.specs.Prelude.{◌≡◌, ◌%◌, List, ◌∷◌, map, Option, Some, None, Contains}
use Rattle.std.specs.List.{flat_map}
use Rattle.venue_types.specs.declared.point.Point.{Point}
use Rattle.venue_types.specs.declared.point.Ring.{Ring}
use Rattle.venue_types.specs.declared.point.Part.{Part}
use Rattle.venue_types.specs.declared.point.Shape.{Shape}
use Rattle.plane_exact.specs.Segment.{Crosses}
use Rattle.plane_exact.specs.Figure.{Edge, edges, crossings, IsNearSome}

-- a ring of a shape, and the border that it is a hole in, if it is one
pub record Placed : Type 0 where
  pub ring : Ring
  pub border : Option Ring

abbrev pub as_hole : Ring → Ring → Placed
as_hole border ring = record { ring = ring; border = Some border }

-- the rings of a polygon: its border, then its holes
abbrev pub placed_in : Part → List Placed
placed_in part = record { ring = part.outer; border = None } ∷ map (as_hole part.outer) part.holes

-- the rings of a shape, polygon by polygon
abbrev pub placed_rings : Shape → List Placed
placed_rings shape = flat_map placed_in shape.parts

-- two edges of the ring cross
pub record CrossesItself (ring : Ring) : Type 0 where
  pub one : Edge
  pub other : Edge
  pub has_one : Contains (edges ring.points) one
  pub has_other : Contains (edges ring.points) other
  pub cross : Crosses one.from one.to other.from other.to

-- the position is inside the ring: an odd number of its edges meets the ray from there toward greater longitude
abbrev pub IsInsideRing : Point → Ring → Type 0
IsInsideRing p ring = crossings p (edges ring.points) % 2 ≡ 1

-- it is on the ring: on one of its edges
abbrev pub IsOnRing : Point → Ring → Type 0
IsOnRing p ring = IsNearSome p 0 (edges ring.points)

-- a vertex of the hole is neither inside the border of its polygon nor on it
pub record LeavesBorder (placed : Placed) : Type 0 where
  pub border : Ring
  pub hole : placed.border ≡ Some border
  pub vertex : Point
  pub has : Contains placed.ring.points vertex
  pub not_inside : ¬ IsInsideRing vertex border
  pub not_on : ¬ IsOnRing vertex border
