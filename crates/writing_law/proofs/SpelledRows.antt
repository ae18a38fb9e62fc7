-- The feature of each row is spelled by its compact text, and nests six deep at most.
use Rattle.std.proofs.Common.{refl, arith, codes}
use Rattle.exact_json.specs.Json.{Json, null, text, object, Members, no_pairs}
use Rattle.geo_shapes.specs.Numbers.{SameNumbers}
use Rattle.venue_types.specs.declared.feature_id.FeatureId.{FeatureId}
use Rattle.venue_types.specs.declared.features.PlainRow.{PlainRow}
use Rattle.venue_types.specs.declared.features.AmenityRow.{AmenityRow}
use Rattle.venue_types.specs.declared.features.AnchorRow.{AnchorRow}
use Rattle.venue_types.specs.declared.features.BuildingRow.{BuildingRow}
use Rattle.venue_types.specs.declared.features.DetailRow.{DetailRow}
use Rattle.venue_types.specs.declared.features.FixtureRow.{FixtureRow}
use Rattle.venue_types.specs.declared.features.FootprintRow.{FootprintRow}
use Rattle.venue_types.specs.declared.features.KioskRow.{KioskRow}
use Rattle.venue_types.specs.declared.features.LevelRow.{LevelRow}
use Rattle.venue_types.specs.declared.features.OccupantRow.{OccupantRow}
use Rattle.venue_types.specs.declared.features.OpeningRow.{OpeningRow}
use Rattle.venue_types.specs.declared.features.RelationshipRow.{RelationshipRow}
use Rattle.venue_types.specs.declared.features.UnitRow.{UnitRow}
use Rattle.venue_types.specs.declared.features.VenueRow.{VenueRow}
use Rattle.venue_types.specs.declared.folder_file.File.{File}
use Rattle.venue_types.specs.FolderFiles.{type_name}
use Rattle.imdf_schema.specs.declared.table.Property.TheVariants as property
use Rattle.imdf_write.specs.Values.{id_value}
use Rattle.imdf_write.specs.Rows.{feature, plain_feature, amenity_feature, anchor_feature, building_feature, detail_feature, fixture_feature, footprint_feature, kiosk_feature, level_feature, occupant_feature, opening_feature, relationship_feature, unit_feature, venue_feature}
use Rattle.writing_law.specs.Fit.{FitsPlain, FitsAmenity, FitsAnchor, FitsBuilding, FitsDetail, FitsFixture, FitsFootprint, FitsKiosk, FitsLevel, FitsOccupant, FitsOpening, FitsRelationship, FitsUnit, FitsVenue}
use Rattle.writing_law.specs.Spelled.{IsSpelled, HasSpelled}
use Rattle.writing_law.proofs.Ascii.{word_utf8}
use Rattle.writing_law.proofs.Spelled.{deeper, null_spelled, text_spelled, no_pairs_spelled, pair_spelled, object_spelled, if_so_spelled, with_spelled}
use Rattle.writing_law.proofs.SpelledFields.{id_spelled, ids_spelled, id_or_null_spelled, ordinal_spelled, point_spelled, line_spelled, shape_spelled, display_spelled, name_spelled, word_list_spelled, door_spelled, type_name_utf8, ref_or_null_spelled, refs_spelled, passage_spelled, direction_spelled}

-- a geometry and properties that nest no deeper than their limits
feature_spelled : (f : File) (geometry : Json) (id : FeatureId) (properties : Members) → IsSpelled 5 geometry → HasSpelled 4 properties → IsSpelled 6 (feature f geometry id properties)
feature_spelled f geometry id properties h k =
    object_spelled 5 _
    (pair_spelled 5 (codes "feature_type") (text (type_name f)) _ (word_utf8 (codes "feature_type") refl) (text_spelled 5 (type_name f) (type_name_utf8 f))
    (pair_spelled 5 (codes "geometry") geometry _ (word_utf8 (codes "geometry") refl) h
    (pair_spelled 5 (codes "id") (id_value id) _ (word_utf8 (codes "id") refl) (id_spelled 5 id)
    (pair_spelled 5 (codes "properties") (object properties) _ (word_utf8 (codes "properties") refl) (object_spelled 4 properties k)
    (pair_spelled 5 (codes "type") (text (codes "Feature")) no_pairs (word_utf8 (codes "type") refl) (text_spelled 5 (codes "Feature") (word_utf8 (codes "Feature") refl)) (no_pairs_spelled 5))))))

pub plain_spelled : (f : File) (row : PlainRow) → FitsPlain row → IsSpelled 6 (plain_feature f row)
plain_spelled f row fits = feature_spelled f null row.id no_pairs (null_spelled 5) (no_pairs_spelled 4)

pub amenity_spelled : SameNumbers → (f : File) (row : AmenityRow) → FitsAmenity row → IsSpelled 6 (amenity_feature f row)
amenity_spelled same f row fits =
    feature_spelled f _ row.id _ (deeper 2 5 _ (omega arith) (point_spelled same row.point fits.point))
    (with_spelled 4 property.AddressId _ _ (id_or_null_spelled 4 row.address)
    (with_spelled 4 property.Category _ _ (text_spelled 4 row.category fits.category)
    (with_spelled 4 property.Name _ _ (name_spelled 3 row.name fits.name.each)
    (with_spelled 4 property.UnitIds _ no_pairs (ids_spelled 3 row.units) (no_pairs_spelled 4)))))

pub anchor_spelled : SameNumbers → (f : File) (row : AnchorRow) → FitsAnchor row → IsSpelled 6 (anchor_feature f row)
anchor_spelled same f row fits =
    feature_spelled f _ row.id _ (deeper 2 5 _ (omega arith) (point_spelled same row.point fits.point))
    (with_spelled 4 property.AddressId _ _ (id_or_null_spelled 4 row.address)
    (with_spelled 4 property.UnitId _ no_pairs (id_spelled 4 row.unit) (no_pairs_spelled 4)))

pub building_spelled : (f : File) (row : BuildingRow) → FitsBuilding row → IsSpelled 6 (building_feature f row)
building_spelled f row fits = feature_spelled f null row.id _ (null_spelled 5) (with_spelled 4 property.AddressId _ no_pairs (id_or_null_spelled 4 row.address) (no_pairs_spelled 4))

pub detail_spelled : (f : File) (row : DetailRow) → FitsDetail row → IsSpelled 6 (detail_feature f row)
detail_spelled f row fits = feature_spelled f null row.id _ (null_spelled 5) (with_spelled 4 property.LevelId _ no_pairs (id_or_null_spelled 4 row.level) (no_pairs_spelled 4))

pub fixture_spelled : SameNumbers → (f : File) (row : FixtureRow) → FitsFixture row → IsSpelled 6 (fixture_feature f row)
fixture_spelled same f row fits =
    feature_spelled f _ row.id _ (shape_spelled same row.shape fits.shape)
    (with_spelled 4 property.AnchorId _ _ (id_or_null_spelled 4 row.anchor)
    (with_spelled 4 property.LevelId _ no_pairs (id_or_null_spelled 4 row.level) (no_pairs_spelled 4)))

pub footprint_spelled : SameNumbers → (f : File) (row : FootprintRow) → FitsFootprint row → IsSpelled 6 (footprint_feature f row)
footprint_spelled same f row fits =
    feature_spelled f _ row.id _ (shape_spelled same row.shape fits.shape) (with_spelled 4 property.BuildingIds _ no_pairs (ids_spelled 3 row.buildings) (no_pairs_spelled 4))

pub kiosk_spelled : (f : File) (row : KioskRow) → FitsKiosk row → IsSpelled 6 (kiosk_feature f row)
kiosk_spelled f row fits =
    feature_spelled f null row.id _ (null_spelled 5)
    (with_spelled 4 property.AnchorId _ _ (id_or_null_spelled 4 row.anchor)
    (with_spelled 4 property.LevelId _ no_pairs (id_or_null_spelled 4 row.level) (no_pairs_spelled 4)))

pub level_spelled : SameNumbers → (f : File) (row : LevelRow) → FitsLevel row → IsSpelled 6 (level_feature f row)
level_spelled same f row fits =
    feature_spelled f _ row.id _ (shape_spelled same row.shape fits.shape)
    (with_spelled 4 property.AddressId _ _ (id_or_null_spelled 4 row.address)
    (with_spelled 4 property.BuildingIds _ _ (ids_spelled 3 row.buildings)
    (pair_spelled 4 (codes "ordinal") _ no_pairs (word_utf8 (codes "ordinal") refl) (ordinal_spelled same 4 row.ordinal fits.ordinal.0 fits.ordinal.1) (no_pairs_spelled 4))))

pub occupant_spelled : (f : File) (row : OccupantRow) → FitsOccupant row → IsSpelled 6 (occupant_feature f row)
occupant_spelled f row fits =
    feature_spelled f null row.id _ (null_spelled 5)
    (with_spelled 4 property.AnchorId _ _ (id_spelled 4 row.anchor)
    (with_spelled 4 property.Name _ no_pairs (name_spelled 3 row.name fits.name.each) (no_pairs_spelled 4)))

pub opening_spelled : SameNumbers → (f : File) (row : OpeningRow) → FitsOpening row → IsSpelled 6 (opening_feature f row)
opening_spelled same f row fits =
    feature_spelled f _ row.id _ (deeper 3 5 _ (omega arith) (line_spelled same row.line fits.line))
    (with_spelled 4 property.AccessControl _ _ (word_list_spelled 3 row.out (codes "outofservice") (word_utf8 (codes "outofservice") refl))
    (with_spelled 4 property.Accessibility _ _ (word_list_spelled 3 row.marked (codes "wheelchair") (word_utf8 (codes "wheelchair") refl))
    (with_spelled 4 property.Door _ _ (door_spelled 3 row.revolving row.turnstile)
    (with_spelled 4 property.LevelId _ no_pairs (id_spelled 4 row.level) (no_pairs_spelled 4)))))

pub relationship_spelled : (f : File) (row : RelationshipRow) → FitsRelationship row → IsSpelled 6 (relationship_feature f row)
relationship_spelled f row fits =
    feature_spelled f null row.id _ (null_spelled 5)
    (with_spelled 4 property.Category _ _ (passage_spelled 4 row.kind)
    (with_spelled 4 property.Destination _ _ (ref_or_null_spelled 3 row.destination fits.destination)
    (pair_spelled 4 (codes "direction") _ _ (word_utf8 (codes "direction") refl) (direction_spelled 4 row.directed)
    (with_spelled 4 property.Intermediary _ _ (refs_spelled 2 row.between fits.between)
    (with_spelled 4 property.Origin _ no_pairs (ref_or_null_spelled 3 row.origin fits.origin) (no_pairs_spelled 4))))))

pub unit_spelled : SameNumbers → (f : File) (row : UnitRow) → FitsUnit row → IsSpelled 6 (unit_feature f row)
unit_spelled same f row fits =
    feature_spelled f _ row.id _ (shape_spelled same row.shape fits.shape)
    (with_spelled 4 property.Category _ _ (text_spelled 4 row.category fits.category)
    (with_spelled 4 property.DisplayPoint _ _ (deeper 2 4 _ (omega arith) (display_spelled same row.display fits.display))
    (with_spelled 4 property.LevelId _ _ (id_spelled 4 row.level)
    (with_spelled 4 property.Name _ _ (name_spelled 3 row.name fits.name.each)
    (with_spelled 4 property.Restriction _ no_pairs (if_so_spelled 4 row.restricted (text (codes "restricted")) (text_spelled 4 (codes "restricted") (word_utf8 (codes "restricted") refl))) (no_pairs_spelled 4))))))

pub venue_spelled : SameNumbers → (f : File) (row : VenueRow) → FitsVenue row → IsSpelled 6 (venue_feature f row)
venue_spelled same f row fits =
    feature_spelled f _ row.id _ (shape_spelled same row.shape fits.shape) (with_spelled 4 property.AddressId _ no_pairs (id_or_null_spelled 4 row.address) (no_pairs_spelled 4))
