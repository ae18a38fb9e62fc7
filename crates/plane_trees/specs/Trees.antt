-- How the code keeps runs of edges and their octagons: machinery of `Bands`, named by no public clause.
use Rattle.std.specs.Prelude.{◌≡◌, ℕ, zero, suc, ◌+◌, ◌/◌, ◌%◌, ◌<◌, ◌↔◌, List, [], ◌∷◌, ◌++◌, length, take, drop, Any, Contains, pos, ◌⊎◌}
use Rattle.venue_types.specs.declared.point.Point.{Point}
use Rattle.venue_types.specs.declared.point.Ring.{Ring}
use Rattle.plane_trees.specs.declared.octagons.Octagon.{Octagon}
use Rattle.plane_trees.specs.declared.octagons.Sight.{Sight}
use Rattle.plane_trees.specs.declared.octagons.Sight.TheVariants.{Missed, Before, Among}
use Rattle.plane_trees.specs.declared.runs.Run.{Run}
use Rattle.plane_trees.specs.declared.runs.Asked.{Asked}
use Rattle.plane_trees.specs.declared.run_walls.Way.{Way}
use Rattle.plane_exact.specs.declared.walls.Wall.{Wall}
use Rattle.plane_exact.specs.Walls.{IsAmong, Stops}
use Rattle.plane_exact.specs.Plane.{IsWithin}
use Rattle.plane_exact.specs.Segment.{Crosses}
use Rattle.plane_exact.specs.Figure.{Edge, edges_from, crossings, ring_points}
use Rattle.plane_trees.specs.Line.{Direction, last_from, IsBetween, IsClosed}
use Rattle.plane_trees.specs.Octagons.{IsOffset, IsRound, kept}

-- the first octagon lies round the line, those of the first half of the others round the first half of its edges, and so on
unfoldable pub IsTree : ℕ → Point → List Octagon → Point → List Point → Type 0
IsTree zero origin [] start rest = Unit {0}
IsTree zero origin (octagon ∷ below) start rest = IsRound octagon origin (start ∷ rest)
IsTree (suc depth) origin [] start rest = Unit {0}
IsTree (suc depth) origin (octagon ∷ below) start rest =
    IsRound octagon origin (start ∷ rest)
    × IsTree depth origin (take (length below / 2) below) start (take (length rest / 2) rest)
    × IsTree depth origin (drop (length below / 2) below) (last_from start (take (length rest / 2) rest)) (drop (length rest / 2) rest)

-- how many octagons such a tree has
abbrev pub octagons_of : ℕ → ℕ
octagons_of zero = 1
octagons_of (suc depth) = suc (octagons_of depth + octagons_of depth)

-- the new octagons are the old ones and a tree of the line
abbrev pub AddsTree : ℕ → Point → Point → List Point → List Octagon → List Octagon → Type 0
AddsTree depth origin start rest old new = (added : List Octagon) × (new ≡ old ++ added) × (length added ≡ octagons_of depth) × IsTree depth origin added start rest

-- a tree of the line through the points, counted from the first
abbrev pub IsTreeOf : ℕ → List Octagon → List Point → Type 0
IsTreeOf depth octagons [] = Unit {0}
IsTreeOf depth octagons (start ∷ rest) = IsTree depth start octagons start rest

-- the points of a run
abbrev pub run_points : Run → List Point
run_points run = run.start ∷ run.rest.now

-- its edges
abbrev pub run_edges : Run → List Edge
run_edges run = edges_from run.start run.rest.now

-- its octagons are a tree of it
abbrev pub IsSound : Point → Run → Type 0
IsSound origin run = IsTree run.depth origin run.octagons.now run.start run.rest.now

-- the place that is asked about is that of the position, and close to the origin
pub record IsMeasured (asked : Asked) : Type 0 where
  pub place : IsOffset asked.place asked.origin asked.position
  pub range : (way : Direction) → IsWithin 1600000000 (kept way asked.place) (pos 0)

-- the two runs make up the run
pub record AreHalves (run front back : Run) : Type 0 where
  pub edges : run_edges run ≡ run_edges front ++ run_edges back
  pub front_points : (q : Point) → Contains (run_points front) q → Contains (run_points run) q
  pub back_points : (q : Point) → Contains (run_points back) q → Contains (run_points run) q
  pub points : (q : Point) → Contains (run_points run) q → Contains (run_points front) q ⊎ Contains (run_points back) q
  pub front_sound : (origin : Point) → IsSound origin run → IsSound origin front
  pub back_sound : (origin : Point) → IsSound origin run → IsSound origin back
  pub front_depth : front.depth < run.depth
  pub back_depth : back.depth < run.depth

-- what a sight tells of the edges of a line
abbrev pub IsToldOf : Point → Point → List Point → Sight → Type 0
IsToldOf p start rest Missed = crossings p (edges_from start rest) ≡ 0
IsToldOf p start rest Before = (crossings p (edges_from start rest) % 2 ≡ 1) ↔ IsBetween p start (last_from start rest)
IsToldOf p start rest Among = Unit {0}

-- some of the edges crosses ab
abbrev pub CrossesSome : Point → Point → List Edge → Type 0
CrossesSome a b list = Any (λ edge. Crosses a b edge.from edge.to) list

-- some edge of the one row crosses some edge of the other
abbrev pub CrossEachOther : List Edge → List Edge → Type 0
CrossEachOther one other = Any (λ edge. CrossesSome edge.from edge.to other) one

-- ---- walls

-- the octagon of the way lies round its ends
abbrev pub IsRoundWay : Way → Type 0
IsRoundWay way = IsRound way.octagon way.origin (way.start ∷ way.end ∷ [])

-- one of these edges and points, and it stops the way from a to b
abbrev pub IsObstacle : List Edge → List Point → Point → Point → ℕ → Wall → Type 0
IsObstacle list points a b t wall = IsAmong list points wall × Stops wall a b t

-- none of them stops the way
abbrev pub IsFree : List Edge → List Point → Point → Point → ℕ → Type 0
IsFree list points a b t = (wall : Wall) → IsAmong list points wall → ¬ Stops wall a b t

-- ---- rings

-- the last point of the ring equals its first
abbrev pub IsClosedRing : Ring → Type 0
IsClosedRing ring = IsClosed ring.points

-- the first octagon lies round the rings, those of the first half of the others round the first half of the rings, and so on
unfoldable pub IsGrove : ℕ → Point → List Octagon → List Ring → Type 0
IsGrove zero origin [] list = Unit {0}
IsGrove zero origin (octagon ∷ below) list = IsRound octagon origin (ring_points list)
IsGrove (suc depth) origin [] list = Unit {0}
IsGrove (suc depth) origin (octagon ∷ below) list =
    IsRound octagon origin (ring_points list)
    × IsGrove depth origin (take (length below / 2) below) (take (length list / 2) list)
    × IsGrove depth origin (drop (length below / 2) below) (drop (length list / 2) list)

-- the new octagons are the old ones and a grove of the rings
abbrev pub AddsGrove : ℕ → Point → List Ring → List Octagon → List Octagon → Type 0
AddsGrove depth origin list old new = (added : List Octagon) × (new ≡ old ++ added) × (length added ≡ octagons_of depth) × IsGrove depth origin added list
