-- What a value of `Nodes` is seen as: its nodes and what can be closed, by number and by identifier.
use Rattle.std.specs.Prelude.{◌≡◌, ℕ, ◌+◌, List, [], ◌∷◌, map, length, Option, None, Some, slice_get}
use Rattle.venue_types.specs.declared.feature_id.FeatureId.{FeatureId}
use Rattle.venue_types.specs.declared.features.Features.{Features}
use Rattle.venue_types.specs.declared.link.Node.{Node}
use Rattle.venue_types.specs.declared.settings.Settings.{Settings}
use Rattle.feature_rows.specs.Indexes.{place_of as place_in}
use Rattle.venue_types.specs.declared.features.UnitRow.{UnitRow}
use Rattle.venue_nodes.specs.declared.corner_nodes.CornerRange.{CornerRange}
use Rattle.venue_nodes.specs.declared.numbers.Numbers.{Numbers}
use Rattle.venue_nodes.specs.declared.nodes.Nodes.{Nodes}
use Rattle.venue_nodes.specs.Nodes.{place_nodes, nodes, place_of, closables, walkable_units, corner_points}
use Rattle.venue_nodes.specs.Numbering.{number_among}

-- the number that an identifier has, if it has one
unfoldable pub number_of : Numbers → FeatureId → Option ℕ
number_of numbers id = place_in numbers.index id

-- the nodes, by their numbers
unfoldable pub node_list : Nodes → List Node
node_list made = made.list.items

-- the number of the node at which a feature is, if it is a place
unfoldable pub find_place : Nodes → FeatureId → Option ℕ
find_place made id = elim (number_of made.occupants id) [
  | None ↦ number_of made.numbers id
  | Some k ↦ elim (slice_get made.anchors.items k) [ None ↦ None | Some anchor ↦ number_of made.numbers anchor ]
]

-- the features that can be closed, by their numbers
unfoldable pub closable_list : Nodes → List FeatureId
closable_list made = made.closable_ids.items

-- the number of a feature that can be closed
unfoldable pub find_closable : Nodes → FeatureId → Option ℕ
find_closable made id = number_of made.closable_numbers id

-- for each unit that can be walked through where the nodes of its corners stand
unfoldable pub corner_ranges : Nodes → List CornerRange
corner_ranges made = made.corners.items

-- the range of so many numbers from this one on
abbrev pub range_behind : ℕ → ℕ → CornerRange
range_behind at count = record { start = at; end = at + count }

-- ranges one behind the other, the first from this number on, so many numbers in each
abbrev pub ranges_from : ℕ → List ℕ → List CornerRange
ranges_from at [] = []
ranges_from at (count ∷ counts) = range_behind at count ∷ ranges_from (at + count) counts

-- how many corners of each unit that can be walked through are nodes
abbrev pub corner_counts : Features → Settings → List ℕ
corner_counts features settings = map (λ (row : UnitRow). length (corner_points settings.inside row)) (walkable_units features)

-- the corners of each unit stand one unit behind the other, behind all places
pub record HaveCorners (features : Features) (settings : Settings) (made : Nodes) : Type 0 where
  pub ranges : corner_ranges made ≡ ranges_from (length (place_nodes features)) (corner_counts features settings)

-- these are the nodes of the features, their places, and what can be closed among the features
pub record AreNodes (features : Features) (settings : Settings) (made : Nodes) : Type 0 where
  pub list : node_list made ≡ nodes features settings
  pub place : (id : FeatureId) → find_place made id ≡ place_of features id
  pub closable_ids : closable_list made ≡ closables features
  pub closable : (id : FeatureId) → find_closable made id ≡ number_among (closables features) id
