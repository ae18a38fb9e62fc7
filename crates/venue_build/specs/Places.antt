-- The places that visitors ask for.
use Rattle.std.specs.Prelude.{ℤ, pos, List, [], ◌∷◌, ◌++◌, map, Some, None}
use Rattle.std.specs.List.{find}
use Rattle.venue_types.specs.declared.feature_id.FeatureId.{FeatureId}
use Rattle.venue_types.specs.declared.features.Features.{Features}
use Rattle.venue_types.specs.declared.features.AmenityRow.{AmenityRow}
use Rattle.venue_types.specs.declared.features.AnchorRow.{AnchorRow}
use Rattle.venue_types.specs.declared.features.LevelRow.{LevelRow}
use Rattle.venue_types.specs.declared.features.OccupantRow.{OccupantRow}
use Rattle.venue_types.specs.declared.features.OpeningRow.{OpeningRow}
use Rattle.venue_types.specs.declared.features.UnitRow.{UnitRow}
use Rattle.venue_types.specs.declared.kind.Class.TheVariants as class
use Rattle.venue_types.specs.declared.reply.PlaceRow.{PlaceRow}
use Rattle.link_graph.specs.Identity.{is_same}
use Rattle.link_graph.specs.Nodes.{walkable_units}

-- the ordinal of the level of this identifier; 0 where no level has it, which is so in no valid rows
unfoldable pub level_ordinal : Features → FeatureId → ℤ
level_ordinal features id = elim (find (λ (row : LevelRow). is_same row.id id) features.levels) [ None ↦ pos 0 | Some row ↦ row.ordinal ]

-- the ordinal of the level of the unit of this identifier
unfoldable pub unit_ordinal : Features → FeatureId → ℤ
unit_ordinal features id = elim (find (λ (row : UnitRow). is_same row.id id) features.units) [ None ↦ pos 0 | Some row ↦ level_ordinal features row.level ]

-- that of the unit of the anchor of this identifier
unfoldable pub anchor_ordinal : Features → FeatureId → ℤ
anchor_ordinal features id = elim (find (λ (row : AnchorRow). is_same row.id id) features.anchors) [ None ↦ pos 0 | Some row ↦ unit_ordinal features row.unit ]

-- that of the first of these units
abbrev pub first_ordinal : Features → List FeatureId → ℤ
first_ordinal features [] = pos 0
first_ordinal features (id ∷ ids) = unit_ordinal features id

-- an amenity is where the first of its units is
abbrev pub amenity_place : Features → AmenityRow → PlaceRow
amenity_place features row = record { id = row.id; class = class.Amenity; ordinal = first_ordinal features row.units; name = row.name }

-- an anchor is where its unit is, and has no name
abbrev pub anchor_place : Features → AnchorRow → PlaceRow
anchor_place features row = record { id = row.id; class = class.Anchor; ordinal = unit_ordinal features row.unit; name = [] }

-- an occupant is where its anchor is
abbrev pub occupant_place : Features → OccupantRow → PlaceRow
occupant_place features row = record { id = row.id; class = class.Occupant; ordinal = anchor_ordinal features row.anchor; name = row.name }

-- an opening is on its level, and has no name
abbrev pub opening_place : Features → OpeningRow → PlaceRow
opening_place features row = record { id = row.id; class = class.Opening; ordinal = level_ordinal features row.level; name = [] }

-- a unit is on its level
abbrev pub unit_place : Features → UnitRow → PlaceRow
unit_place features row = record { id = row.id; class = class.Unit; ordinal = level_ordinal features row.level; name = row.name }

-- all places: amenities, anchors, occupants, openings, then units that can be walked through, each in file order
unfoldable pub places : Features → List PlaceRow
places features =
    map (amenity_place features) features.amenities
    ++ map (anchor_place features) features.anchors
    ++ map (occupant_place features) features.occupants
    ++ map (opening_place features) features.openings
    ++ map (unit_place features) (walkable_units features)
