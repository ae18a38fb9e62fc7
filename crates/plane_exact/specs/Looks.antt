-- How `sight` goes through the rings: named by no public clause.
use Rattle.std.specs.Prelude.{ℕ, ◌*◌, ◌%◌, ◌≤◌, Bool, false, not, ◌&&◌, ◌||◌, ◌==◌, if◌then◌else◌, List, [], ◌∷◌, map, Contains}
use Rattle.std.specs.List.{list_any}
use Rattle.venue_types.specs.declared.point.Point.{Point}
use Rattle.venue_types.specs.declared.point.Spot.{Spot}
use Rattle.plane_exact.specs.declared.sights.Way.{Way}
use Rattle.plane_exact.specs.declared.sights.Look.{Look}
use Rattle.plane_exact.specs.Plane.{IsInRange}
use Rattle.plane_exact.specs.Figure.{Edge, AllNearby, crossings, meets_ray}
use Rattle.plane_exact.specs.Scaled.{times, scaled_edge}
use Rattle.plane_exact.specs.Sight.{at_spot, middle_of}
use Rattle.plane_exact.specs.Seeing.{edge_stops, vertex_stops, is_near_edge}

-- the way from a to b, among points of which all numbers are taken four times
unfoldable pub way_between : Spot → Spot → ℕ → Way
way_between a b t = record { from = times 2 (at_spot a); to = times 2 (at_spot b); middle = middle_of a b; tolerance = 4 * t }

-- the way is nearby the points, of which all numbers are taken four times
pub record FitsWay (way : Way) (points : List Point) : Type 0 where
  pub near : (p q : Point) → Contains points p → Contains points q → AllNearby (way.middle ∷ way.from ∷ way.to ∷ times 4 p ∷ times 4 q ∷ [])
  pub range : (p : Point) → Contains points p → IsInRange p
  pub tolerance : way.tolerance ≤ 4000000

-- what a look at one edge tells: whether it stops the way, whether the ray from the middle meets it, whether the middle is near it
unfoldable pub edge_look : Way → Edge → Look
edge_look way edge = record { stopped = edge_stops way.from way.to way.tolerance edge; odd = meets_ray way.middle edge; near = is_near_edge way.middle edge.from edge.to way.tolerance }

-- a look at one vertex tells only whether it stops the way
unfoldable pub vertex_look : Way → Point → Look
vertex_look way v = record { stopped = vertex_stops way.from way.to way.tolerance v; odd = false; near = false }

-- a look at nothing
unfoldable pub blank_look : Look
blank_look = record { stopped = false; odd = false; near = false }

-- what two looks tell together
unfoldable pub joined_look : Look → Look → Look
joined_look one more = record { stopped = one.stopped || more.stopped; odd = if one.odd then not more.odd else more.odd; near = one.near || more.near }

-- what a look at edges and points tells, of which all numbers are taken four times
unfoldable pub look_at : Way → List Edge → List Point → Look
look_at way list points = record {
  stopped = list_any (edge_stops way.from way.to way.tolerance) (map (scaled_edge 4) list) || list_any (vertex_stops way.from way.to way.tolerance) (map (times 4) points);
  odd = crossings way.middle (map (scaled_edge 4) list) % 2 == 1;
  near = list_any (λ (edge : Edge). is_near_edge way.middle edge.from edge.to way.tolerance) (map (scaled_edge 4) list);
}

-- they tell that the way is free, and that its middle is in the shape or near it
unfoldable pub is_free : Look → Bool
is_free look = not look.stopped && (look.odd || look.near)
