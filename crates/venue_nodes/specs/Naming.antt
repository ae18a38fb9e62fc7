-- Which units a node names, by their identifiers: the code's own machinery, which no public contract cites.
use Rattle.std.specs.Prelude.{◌≡◌, ℕ, ◌+◌, ◌≤◌, List, [], ◌∷◌, ◌++◌, Bool, map, filter, flat_map, replicate, length, slice_get}
use Rattle.std.specs.List.{list_any, filter_map}
use Rattle.std.specs.Option.{option_map}
use Rattle.venue_types.specs.declared.feature_id.FeatureId.{FeatureId}
use Rattle.venue_types.specs.declared.features.Features.{Features}
use Rattle.venue_types.specs.declared.features.AmenityRow.{AmenityRow}
use Rattle.venue_types.specs.declared.features.AnchorRow.{AnchorRow}
use Rattle.venue_types.specs.declared.features.UnitRow.{UnitRow}
use Rattle.venue_types.specs.declared.settings.Inside.{Inside}
use Rattle.imdf_access.specs.Categories.{is_walkable}
use Rattle.feature_rows.specs.Indexes.{AreOnce, IsIndex}
use Rattle.venue_nodes.specs.declared.walkables.Walkables.{Walkables}
use Rattle.venue_nodes.specs.Identity.{is_same}
use Rattle.venue_nodes.specs.Members.{places_where}
use Rattle.venue_nodes.specs.Nodes.{corner_points}

-- one of the identifiers is the unit's own
abbrev pub names : List FeatureId → FeatureId → Bool
names ids own = list_any (λ id. is_same id own) ids

-- the numbers of the units that are named, of units with these identifiers
abbrev pub numbers : List FeatureId → List FeatureId → List ℕ
numbers owns ids = places_where (names ids) 0 owns

-- the row of a unit: the numbers of the nodes that name it
abbrev pub row_in : List (List FeatureId) → FeatureId → List ℕ
row_in nodes own = places_where (λ (ids : List FeatureId). names ids own) 0 nodes

-- the unit can be walked through
abbrev pub can_walk : UnitRow → Bool
can_walk row = is_walkable row.category

abbrev pub unit_id : UnitRow → FeatureId
unit_id row = row.id

-- each identifier stands once and is found by the index, and their numbers fit
pub record AreKnown (walkables : Walkables) : Type 0 where
  pub once : AreOnce walkables.ids.items
  pub places_are : IsIndex walkables.ids.items walkables.places
  pub few : length walkables.ids.items ≤ 100000

-- the walkable ones of the units
pub record AreWalkables (units : List UnitRow) (walkables : Walkables) : Type 0 where
  pub ids_are : walkables.ids.items ≡ map unit_id (filter can_walk units)
  pub indexes_are : walkables.indexes.items ≡ places_where can_walk 0 units
  pub known : AreKnown walkables

-- the identifiers of the units of these indexes
abbrev pub ids_at : List UnitRow → List ℕ → List FeatureId
ids_at units indexes = filter_map (λ k. option_map unit_id (slice_get units k)) indexes

-- what the corners of a unit name, each the unit
abbrev pub corner_names : Inside → UnitRow → List (List FeatureId)
corner_names inside row = replicate (length (corner_points inside row)) (row.id ∷ [])

-- what the corners of all walkable ones of the units name
unfoldable pub named_by_corners : Inside → List UnitRow → List (List FeatureId)
named_by_corners inside units = flat_map (corner_names inside) (filter can_walk units)

-- what each node names: units by amenities and by anchors, those that openings touch, walkable units themselves, and again each by its
-- corners
abbrev pub named_by : Features → Inside → List (List ℕ) → List FeatureId → List (List FeatureId)
named_by features inside touched owns =
    map (λ (row : AmenityRow). row.units) features.amenities
    ++ map (λ (row : AnchorRow). row.unit ∷ []) features.anchors
    ++ map (ids_at features.units) touched
    ++ map (λ (id : FeatureId). id ∷ []) owns
    ++ named_by_corners inside features.units

-- as many places at most: amenities, anchors, openings, units
abbrev pub place_bound : Features → List (List ℕ) → ℕ
place_bound features touched = length features.amenities + length features.anchors + length touched + length features.units
