-- What is kept of the places of features: the code's own machinery, which no public contract cites.
use Rattle.std.specs.Prelude.{◌≡◌, ℕ, ◌≤◌, ℤ, List, Bool, map, length}
use Rattle.venue_types.specs.declared.feature_id.FeatureId.{FeatureId}
use Rattle.venue_types.specs.declared.features.Features.{Features}
use Rattle.venue_types.specs.declared.features.UnitRow.{UnitRow}
use Rattle.venue_types.specs.declared.reply.PlaceRow.{PlaceRow}
use Rattle.imdf_access.specs.Categories.{is_walkable}
use Rattle.link_graph.specs.Members.{places_where}
use Rattle.venue_build.specs.declared.place_table.Places.{Places}
use Rattle.venue_build.specs.FirstRows.{FindsFirst}
use Rattle.venue_build.specs.Places.{places}

abbrev pub place_id : PlaceRow → FeatureId
place_id row = row.id

abbrev pub place_ordinal : PlaceRow → ℤ
place_ordinal row = row.ordinal

-- the unit can be walked through
abbrev pub can_walk : UnitRow → Bool
can_walk row = is_walkable row.category

-- the indexes of the units that can be walked through
abbrev pub walkable_indexes : List UnitRow → List ℕ
walkable_indexes units = places_where can_walk 0 units

-- the numbers of the places by identifier, their ordinals, and the indexes of those that are units
pub record ArePlaces (features : Features) (kept : Places) : Type 0 where
  pub index_is : FindsFirst place_id (places features) kept.index
  pub ordinals_are : kept.ordinals.items ≡ map place_ordinal (places features)
  pub units_are : kept.units.items ≡ walkable_indexes features.units
  pub few : length (places features) ≤ 100000
