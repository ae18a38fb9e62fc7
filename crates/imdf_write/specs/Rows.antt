-- The features of the fixed form, a value for each row. The members of an object stand in the order of their names' bytes.
use Rattle.std.specs.Prelude.{codes}
use Rattle.exact_json.specs.Json.{Json, null, text, object, Members, no_pairs, pair}
use Rattle.venue_types.specs.declared.feature_id.FeatureId.{FeatureId}
use Rattle.venue_types.specs.declared.features.PlainRow.{PlainRow}
use Rattle.venue_types.specs.declared.features.AmenityRow.{AmenityRow}
use Rattle.venue_types.specs.declared.features.AnchorRow.{AnchorRow}
use Rattle.venue_types.specs.declared.features.BuildingRow.{BuildingRow}
use Rattle.venue_types.specs.declared.features.DetailRow.{DetailRow}
use Rattle.venue_types.specs.declared.features.FixtureRow.{FixtureRow}
use Rattle.venue_types.specs.declared.features.FootprintRow.{FootprintRow}
use Rattle.venue_types.specs.declared.features.KioskRow.{KioskRow}
use Rattle.venue_types.specs.declared.features.LevelRow.{LevelRow}
use Rattle.venue_types.specs.declared.features.OccupantRow.{OccupantRow}
use Rattle.venue_types.specs.declared.features.OpeningRow.{OpeningRow}
use Rattle.venue_types.specs.declared.features.RelationshipRow.{RelationshipRow}
use Rattle.venue_types.specs.declared.features.UnitRow.{UnitRow}
use Rattle.venue_types.specs.declared.features.VenueRow.{VenueRow}
use Rattle.venue_types.specs.declared.folder_file.File.{File}
use Rattle.venue_types.specs.FolderFiles.{type_name}
use Rattle.imdf_schema.specs.declared.table.Property.{Property}
use Rattle.imdf_schema.specs.declared.table.Property.TheVariants as property
use Rattle.imdf_schema.specs.Properties.{property_name}
use Rattle.imdf_write.specs.Values.{list_value, or_null, if_so, id_value, ordinal_value, point_value, line_value, shape_value, name_value, word_list, door_of, reference_value, passage_word, direction_word}

-- a property in front of others
abbrev pub with : Property → Json → Members → Members
with p v others = pair (property_name p) v others

-- a feature of a file (RFC 7946, section 3.2; IMDF 1.0.0)
abbrev pub feature : File → Json → FeatureId → Members → Json
feature f geometry id properties =
    object
    (pair (codes "feature_type") (text (type_name f))
    (pair (codes "geometry") geometry
    (pair (codes "id") (id_value id)
    (pair (codes "properties") (object properties)
    (pair (codes "type") (text (codes "Feature")) no_pairs)))))

abbrev pub plain_feature : File → PlainRow → Json
plain_feature f row = feature f null row.id no_pairs

abbrev pub amenity_feature : File → AmenityRow → Json
amenity_feature f row =
    feature f (point_value row.point) row.id
    (with property.AddressId (or_null id_value row.address)
    (with property.Category (text row.category)
    (with property.Name (name_value row.name)
    (with property.UnitIds (list_value id_value row.units) no_pairs))))

abbrev pub anchor_feature : File → AnchorRow → Json
anchor_feature f row =
    feature f (point_value row.point) row.id
    (with property.AddressId (or_null id_value row.address)
    (with property.UnitId (id_value row.unit) no_pairs))

abbrev pub building_feature : File → BuildingRow → Json
building_feature f row = feature f null row.id (with property.AddressId (or_null id_value row.address) no_pairs)

abbrev pub detail_feature : File → DetailRow → Json
detail_feature f row = feature f null row.id (with property.LevelId (or_null id_value row.level) no_pairs)

abbrev pub fixture_feature : File → FixtureRow → Json
fixture_feature f row =
    feature f (shape_value row.shape) row.id
    (with property.AnchorId (or_null id_value row.anchor)
    (with property.LevelId (or_null id_value row.level) no_pairs))

abbrev pub footprint_feature : File → FootprintRow → Json
footprint_feature f row =
    feature f (shape_value row.shape) row.id (with property.BuildingIds (list_value id_value row.buildings) no_pairs)

abbrev pub kiosk_feature : File → KioskRow → Json
kiosk_feature f row =
    feature f null row.id
    (with property.AnchorId (or_null id_value row.anchor)
    (with property.LevelId (or_null id_value row.level) no_pairs))

-- the ordinal stands among the properties
abbrev pub level_feature : File → LevelRow → Json
level_feature f row =
    feature f (shape_value row.shape) row.id
    (with property.AddressId (or_null id_value row.address)
    (with property.BuildingIds (list_value id_value row.buildings)
    (pair (codes "ordinal") (ordinal_value row.ordinal) no_pairs)))

abbrev pub occupant_feature : File → OccupantRow → Json
occupant_feature f row =
    feature f null row.id
    (with property.AnchorId (id_value row.anchor)
    (with property.Name (name_value row.name) no_pairs))

abbrev pub opening_feature : File → OpeningRow → Json
opening_feature f row =
    feature f (line_value row.line) row.id
    (with property.AccessControl (word_list row.out (codes "outofservice"))
    (with property.Accessibility (word_list row.marked (codes "wheelchair"))
    (with property.Door (door_of row.revolving row.turnstile)
    (with property.LevelId (id_value row.level) no_pairs))))

-- the direction stands among the properties
abbrev pub relationship_feature : File → RelationshipRow → Json
relationship_feature f row =
    feature f null row.id
    (with property.Category (text (passage_word row.kind))
    (with property.Destination (or_null reference_value row.destination)
    (pair (codes "direction") (text (direction_word row.directed))
    (with property.Intermediary (list_value reference_value row.between)
    (with property.Origin (or_null reference_value row.origin) no_pairs)))))

abbrev pub unit_feature : File → UnitRow → Json
unit_feature f row =
    feature f (shape_value row.shape) row.id
    (with property.Category (text row.category)
    (with property.DisplayPoint (or_null point_value row.display)
    (with property.LevelId (id_value row.level)
    (with property.Name (name_value row.name)
    (with property.Restriction (if_so row.restricted (text (codes "restricted"))) no_pairs)))))

abbrev pub venue_feature : File → VenueRow → Json
venue_feature f row = feature f (shape_value row.shape) row.id (with property.AddressId (or_null id_value row.address) no_pairs)
