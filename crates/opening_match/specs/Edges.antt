-- The edges of a border, as they are kept, and what is near them.
use Rattle.std.specs.Prelude.{ℕ, ◌⊎◌, List, [], Contains}
use Rattle.venue_types.specs.declared.point.Point.{Point}
use Rattle.plane_exact.specs.Plane.{IsNearby}
use Rattle.plane_exact.specs.Segment.{IsNearEdge}
use Rattle.plane_exact.specs.Figure as figure
use Rattle.opening_match.specs.declared.edges.Edge.{Edge}
use Rattle.opening_match.specs.declared.entries.Entry.{Entry}
use Rattle.opening_match.specs.Entries.{start_of}

-- the edge as it is kept
abbrev pub kept_edge : figure.Edge → Edge
kept_edge edge = record { from = edge.from; to = edge.to }

-- the old ones stay; these edges are among the new ones; and what else is among these begins and ends at some of the points
pub record AddsEdges (list : List figure.Edge) (points : List Point) (old new : List Edge) : Type 0 where
  pub stay : (edge : Edge) → Contains old edge → Contains new edge
  pub has : (edge : figure.Edge) → Contains list edge → Contains new (kept_edge edge)
  pub only : (edge : Edge) → Contains new edge → Contains old edge ⊎ (Contains points edge.from × Contains points edge.to)

-- these edges are among those that are kept, and each of those begins and ends at some of the points
abbrev pub AreEdges : List figure.Edge → List Point → List Edge → Type 0
AreEdges list points kept = AddsEdges list points [] kept

-- the entry begins within the tolerance of the edge, and none of the three positions is far from the edge's start
pub record IsAtEdge (tolerance : ℕ) (e : Entry) (edge : Edge) : Type 0 where
  pub span : IsNearby edge.from edge.to
  pub close : IsNearby edge.from (start_of e)
  pub near : IsNearEdge (start_of e) edge.from edge.to tolerance
