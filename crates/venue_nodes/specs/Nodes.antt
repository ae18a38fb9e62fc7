-- The nodes of a venue: where walks begin, end and turn. And what can be closed.
use Rattle.std.specs.Prelude.{ℕ, ◌+◌, pos, ◌+ℤ◌, List, [], ◌∷◌, ◌++◌, map, filter, flat_map, fold, Bool, true, false, if◌then◌else◌, Option, Some, None, ℤ}
use Rattle.std.specs.Int.{int_min, int_max}
use Rattle.std.specs.List.{find, position_from}
use Rattle.venue_types.specs.declared.feature_id.FeatureId.{FeatureId}
use Rattle.venue_types.specs.declared.features.Features.{Features}
use Rattle.venue_types.specs.declared.features.AmenityRow.{AmenityRow}
use Rattle.venue_types.specs.declared.features.AnchorRow.{AnchorRow}
use Rattle.venue_types.specs.declared.features.OccupantRow.{OccupantRow}
use Rattle.venue_types.specs.declared.features.OpeningRow.{OpeningRow}
use Rattle.venue_types.specs.declared.features.RelationshipRow.{RelationshipRow}
use Rattle.venue_types.specs.declared.features.UnitRow.{UnitRow}
use Rattle.venue_types.specs.declared.kind.Class.TheVariants as class
use Rattle.venue_types.specs.declared.kind.Kind.{Kind}
use Rattle.venue_types.specs.declared.kind.Kind.TheVariants as kinds
use Rattle.venue_types.specs.declared.link.Node.{Node}
use Rattle.venue_types.specs.declared.point.Point.{Point}
use Rattle.venue_types.specs.declared.point.Spot.{Spot}
use Rattle.venue_types.specs.declared.settings.Inside.{Inside}
use Rattle.venue_types.specs.declared.settings.Inside.TheVariants as inside
use Rattle.venue_types.specs.declared.settings.Settings.{Settings}
use Rattle.plane_exact.specs.Corners.{corners}
use Rattle.plane_exact.specs.Figure.{vertices}
use Rattle.imdf_access.specs.Categories.{is_walkable, unit_kind_of}
use Rattle.venue_nodes.specs.Identity.{is_same}

-- the middle of two positions, in doubled coordinates
abbrev pub middle : Point → Point → Spot
middle a b = record { x = a.x +ℤ b.x; y = a.y +ℤ b.y }

-- the last of the points a ∷ rest
abbrev pub last_point : Point → List Point → Point
last_point a [] = a
last_point a (b ∷ rest) = last_point b rest

-- the middle of the first vertex of a line and its last
abbrev pub line_middle : List Point → Spot
line_middle [] = record { x = pos 0; y = pos 0 }
line_middle (a ∷ rest) = middle a (last_point a rest)

-- the least and the greatest of a coordinate over the points a ∷ rest, added
abbrev pub span_middle : (Point → ℤ) → Point → List Point → ℤ
span_middle axis a rest = fold int_min (axis a) (map axis rest) +ℤ fold int_max (axis a) (map axis rest)

-- the middle of the box round the points
abbrev pub box_middle : List Point → Spot
box_middle [] = record { x = pos 0; y = pos 0 }
box_middle (a ∷ rest) = record { x = span_middle (λ (p : Point). p.x) a rest; y = span_middle (λ (p : Point). p.y) a rest }

-- where somebody in the unit stands: at its display point, or where it has none in the middle of the box round all its vertices
abbrev pub unit_spot : UnitRow → Spot
unit_spot row = elim row.display [ None ↦ box_middle (vertices row.shape) | Some p ↦ middle p p ]

-- the feature that a node stands for; or a corner of a unit, by its number and its position
pub data NodeRow : Type 0 where
  amenity : AmenityRow → NodeRow
  anchor : AnchorRow → NodeRow
  opening : OpeningRow → NodeRow
  unit : UnitRow → NodeRow
  corner : UnitRow → ℕ → Point → NodeRow

-- the node of a feature, or of a corner
abbrev pub node_of_row : NodeRow → Node
node_of_row (amenity row) = record { id = row.id; class = class.Amenity; corner = 0; spot = middle row.point row.point }
node_of_row (anchor row) = record { id = row.id; class = class.Anchor; corner = 0; spot = middle row.point row.point }
node_of_row (opening row) = record { id = row.id; class = class.Opening; corner = 0; spot = line_middle row.line.points }
node_of_row (unit row) = record { id = row.id; class = class.Unit; corner = 0; spot = unit_spot row }
node_of_row (corner row n p) = record { id = row.id; class = class.Corner; corner = n; spot = middle p p }

-- the units that can be walked through, in file order
abbrev pub walkable_units : Features → List UnitRow
walkable_units features = filter (λ (row : UnitRow). is_walkable row.category) features.units

-- the features that are places of their own: amenities, anchors, openings, then walkable units, each in file order
unfoldable pub place_node_rows : Features → List NodeRow
place_node_rows features = map amenity features.amenities ++ map anchor features.anchors ++ map opening features.openings ++ map unit (walkable_units features)

-- their nodes, numbered from 0
unfoldable pub place_nodes : Features → List Node
place_nodes features = map node_of_row (place_node_rows features)

-- whether it is that of a moving walkway, which one doesn't cross
abbrev pub is_moving : Kind → Bool
is_moving kinds.Movingwalkway = true
is_moving _ = false

-- whether people stand in the unit and are carried: on a moving walkway
abbrev pub carries : UnitRow → Bool
carries row = is_moving (unit_kind_of row.category)

-- the positions at which one turns who walks in the unit: its corners, where one walks round walls; who is carried turns nowhere
abbrev pub corner_points : Inside → UnitRow → List Point
corner_points inside.Straight row = []
corner_points inside.Clear row = if carries row then [] else corners row.shape

-- these positions as corners of the unit, numbered from n
abbrev pub corner_rows_from : UnitRow → ℕ → List Point → List NodeRow
corner_rows_from row n [] = []
corner_rows_from row n (p ∷ ps) = corner row n p ∷ corner_rows_from row (n + 1) ps

-- the corners of a unit, numbered from 1
abbrev pub corner_rows : Inside → UnitRow → List NodeRow
corner_rows inside row = corner_rows_from row 1 (corner_points inside row)

-- the corners of the units that can be walked through, in file order
unfoldable pub room_corners : Features → Settings → List NodeRow
room_corners features settings = flat_map (corner_rows settings.inside) (walkable_units features)

-- what nodes stand for: the places, then the corners
unfoldable pub node_rows : Features → Settings → List NodeRow
node_rows features settings = place_node_rows features ++ room_corners features settings

-- the nodes, numbered from 0
unfoldable pub nodes : Features → Settings → List Node
nodes features settings = map node_of_row (node_rows features settings)

-- the number of the first place of this identifier
abbrev pub node_number : Features → FeatureId → Option ℕ
node_number features id = position_from (λ (node : Node). is_same node.id id) 0 (place_nodes features)

-- the number of the node at which the feature is: its own, or of an occupant that of its anchor; no other feature is a place
unfoldable pub place_of : Features → FeatureId → Option ℕ
place_of features id = elim (find (λ (row : OccupantRow). is_same row.id id) features.occupants) [
  | None ↦ node_number features id
  | Some row ↦ node_number features row.anchor
]

-- the features that can be closed, numbered from 0: openings, relationships, then units, each in file order
unfoldable pub closables : Features → List FeatureId
closables features =
    map (λ (row : OpeningRow). row.id) features.openings
    ++ map (λ (row : RelationshipRow). row.id) features.relationships
    ++ map (λ (row : UnitRow). row.id) features.units
