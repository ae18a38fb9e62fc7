-- Figures with all their numbers multiplied.
use Rattle.std.specs.Prelude.{ℕ, pos, ◌*ℤ◌, map}
use Rattle.venue_types.specs.declared.point.Point.{Point}
use Rattle.venue_types.specs.declared.point.Ring.{Ring}
use Rattle.venue_types.specs.declared.point.Part.{Part}
use Rattle.venue_types.specs.declared.point.Shape.{Shape}
use Rattle.plane_exact.specs.Figure.{Edge}

-- k times the coordinates of a point
abbrev pub times : ℕ → Point → Point
times k p = record { x = pos k *ℤ p.x; y = pos k *ℤ p.y }

-- of both ends of an edge
abbrev pub scaled_edge : ℕ → Edge → Edge
scaled_edge k edge = record { from = times k edge.from; to = times k edge.to }

-- of all points of a ring
abbrev pub scaled_ring : ℕ → Ring → Ring
scaled_ring k ring = record { points = map (times k) ring.points }

-- of a polygon
abbrev pub scaled_part : ℕ → Part → Part
scaled_part k part = record { outer = scaled_ring k part.outer; holes = map (scaled_ring k) part.holes }

-- of a shape
abbrev pub scaled : ℕ → Shape → Shape
scaled k shape = record { parts = map (scaled_part k) shape.parts }
