-- Whether an opening touches a unit, as a test that computes it plainly.
use Rattle.std.specs.Prelude.{ℕ, ◌*◌, pos, ◌*ℤ◌, int_le, Bool, ◌&&◌, if◌then◌else◌}
use Rattle.std.specs.List.{list_any, list_all}
use Rattle.venue_types.specs.declared.features.OpeningRow.{OpeningRow}
use Rattle.venue_types.specs.declared.features.UnitRow.{UnitRow}
use Rattle.venue_types.specs.declared.point.Point.{Point}
use Rattle.venue_types.specs.declared.point.Shape.{Shape}
use Rattle.plane_exact.specs.Plane.{side, along, squared_distance, square}
use Rattle.plane_exact.specs.Figure.{Edge, all_edges}
use Rattle.venue_nodes.specs.Identity.{is_same}

-- the distance of p to the segment ab is at most t
unfoldable pub is_near_edge : Point → Point → Point → ℕ → Bool
is_near_edge p a b t =
    if int_le (along a b p) (pos 0) then int_le (squared_distance a p) (pos (t * t))
    else if int_le (squared_distance a b) (along a b p) then int_le (squared_distance b p) (pos (t * t))
    else int_le (square (side a b p)) (pos (t * t) *ℤ squared_distance a b)

-- p is no farther than t from some edge of some ring
unfoldable pub is_near : ℕ → Shape → Point → Bool
is_near t shape p = list_any (λ (e : Edge). is_near_edge p e.from e.to t) (all_edges shape)

-- the opening and the unit are of one level, and each vertex of the opening is near the unit's border
unfoldable pub does_touch : ℕ → OpeningRow → UnitRow → Bool
does_touch border_tol opening unit = is_same opening.level unit.level && list_all (is_near border_tol unit.shape) opening.line.points
