-- The fixed form of a folder: each file's text.
use Rattle.std.specs.Prelude.{List, [], map, codes}
use Rattle.exact_json.specs.Json.{Json, null, text, items, object, no_pairs, pair}
use Rattle.json_text.specs.Compact.{compact}
use Rattle.venue_types.specs.declared.features.Features.{Features}
use Rattle.venue_types.specs.declared.files.Slot.{Slot}
use Rattle.venue_types.specs.declared.files.Slot.TheVariants.{Absent, Held}
use Rattle.venue_types.specs.declared.folder_file.File.{File}
use Rattle.venue_types.specs.declared.folder_file.File.TheVariants as file
use Rattle.venue_types.specs.FolderFiles.{all_files}
use Rattle.imdf_write.specs.Values.{items_of}
use Rattle.imdf_write.specs.Rows.{plain_feature, amenity_feature, anchor_feature, building_feature, detail_feature, fixture_feature, footprint_feature, kiosk_feature, level_feature, occupant_feature, opening_feature, relationship_feature, unit_feature, venue_feature}

-- the manifest says nothing but the version of the format
abbrev pub manifest : Json
manifest =
    object
    (pair (codes "created") (text [])
    (pair (codes "extensions") null
    (pair (codes "generated_by") null
    (pair (codes "language") null
    (pair (codes "version") (text (codes "1.0.0")) no_pairs)))))

-- the features of a file, in the order of its rows
abbrev pub features_of : File → Features → List Json
features_of file.Manifest features = []
features_of file.Address features = map (plain_feature file.Address) features.addresses
features_of file.Amenity features = map (amenity_feature file.Amenity) features.amenities
features_of file.Anchor features = map (anchor_feature file.Anchor) features.anchors
features_of file.Building features = map (building_feature file.Building) features.buildings
features_of file.Detail features = map (detail_feature file.Detail) features.details
features_of file.Fixture features = map (fixture_feature file.Fixture) features.fixtures
features_of file.Footprint features = map (footprint_feature file.Footprint) features.footprints
features_of file.Geofence features = map (plain_feature file.Geofence) features.geofences
features_of file.Kiosk features = map (kiosk_feature file.Kiosk) features.kiosks
features_of file.Level features = map (level_feature file.Level) features.levels
features_of file.Occupant features = map (occupant_feature file.Occupant) features.occupants
features_of file.Opening features = map (opening_feature file.Opening) features.openings
features_of file.Relationship features = map (relationship_feature file.Relationship) features.relationships
features_of file.Section features = map (plain_feature file.Section) features.sections
features_of file.Unit features = map (unit_feature file.Unit) features.units
features_of file.Venue features = map (venue_feature file.Venue) features.venues

-- a collection of features (RFC 7946, section 3.3)
abbrev pub collection : List Json → Json
collection features =
    object (pair (codes "features") (items (items_of features)) (pair (codes "type") (text (codes "FeatureCollection")) no_pairs))

-- a type without features has no file
abbrev pub collection_file : List Json → Slot
collection_file [] = Absent
collection_file features = Held (compact (collection features))

-- a file of the folder, whose text is compact and ends without a line end; the manifest is always there
abbrev pub canonical_file : Features → File → Slot
canonical_file features file.Manifest = Held (compact manifest)
canonical_file features f = collection_file (features_of f features)

-- the files of the folder, in the order of their numbers
abbrev pub canonical : Features → List Slot
canonical features = map (canonical_file features) all_files
