-- The files of the fixed form: each has the content that it is to have, and its items are the features, in order.
use Rattle.std.proofs.Common.{◌≡◌, ◌≢◌, ℕ, ◌≤◌, List, [], ◌∷◌, map, Some, refl, sym, ap, subst, arith, codes}
use Rattle.std.specs.Prelude.{All, slice_get}
use Rattle.std.specs.List.{AllZip}
use Rattle.std.proofs.lemmas.List.Elements.{All-nil, All-map, All-weaker}
use Rattle.exact_json.specs.Json.{Json, null, text, items, no_pairs, pair, AllNumbers, HasTexts}
use Rattle.exact_json.specs.Number.{IsNumber}
use Rattle.exact_json.specs.Grammar.{IsJson}
use Rattle.imdf_write.specs.Compact.{compact}
use Rattle.geo_shapes.specs.Numbers.{SameNumbers}
use Rattle.venue_types.specs.declared.features.Features.{Features}
use Rattle.venue_types.specs.declared.files.Slot.{Slot}
use Rattle.venue_types.specs.declared.files.Slot.TheVariants.{Absent, Held}
use Rattle.venue_types.specs.declared.folder_file.File.{File}
use Rattle.venue_types.specs.declared.folder_file.File.TheVariants as file
use Rattle.venue_types.specs.FolderFiles.{file_number}
use Rattle.imdf_schema.specs.Contents.{IsLarge, HasValue, IsContent, HasContent, content_items}
use Rattle.imdf_rows.specs.Folder.{AreRows, AreFeatures}
use Rattle.imdf_rows.specs.Rows.{IsPlainRow, IsAmenityRow, IsAnchorRow, IsBuildingRow, IsDetailRow, IsFixtureRow, IsFootprintRow, IsKioskRow, IsLevelRow, IsOccupantRow, IsOpeningRow, IsRelationshipRow, IsUnitRow, IsVenueRow}
use Rattle.imdf_write.specs.Values.{items_of}
use Rattle.imdf_write.specs.Rows.{plain_feature, amenity_feature, anchor_feature, building_feature, detail_feature, fixture_feature, footprint_feature, kiosk_feature, level_feature, occupant_feature, opening_feature, relationship_feature, unit_feature, venue_feature}
use Rattle.imdf_write.specs.Folder.{manifest, features_of, collection, collection_file, canonical_file, canonical}
use Rattle.writing_law.specs.Fit.{FitsPlain, FitsAmenity, FitsAnchor, FitsBuilding, FitsDetail, FitsFixture, FitsFootprint, FitsKiosk, FitsLevel, FitsOccupant, FitsOpening, FitsRelationship, FitsUnit, FitsVenue}
use Rattle.writing_law.specs.Spelled.{IsSpelled}
use Rattle.writing_law.specs.Written.{FitsFeatures, written, IsWithinLimit, content_of}
use Rattle.writing_law.proofs.Ascii.{word_utf8}
use Rattle.writing_law.proofs.Lists.{items_back}
use Rattle.writing_law.proofs.Figures.{zip_back}
use Rattle.writing_law.proofs.Spelled.{null_spelled, text_spelled, list_spelled, no_pairs_spelled, pair_spelled, object_spelled}
use Rattle.writing_law.proofs.SpelledRows.{plain_spelled, amenity_spelled, anchor_spelled, building_spelled, detail_spelled, fixture_spelled, footprint_spelled, kiosk_spelled, level_spelled, occupant_spelled, opening_spelled, relationship_spelled, unit_spelled, venue_spelled}
use Rattle.writing_law.proofs.Rows.{plain_back, amenity_back, anchor_back, building_back, detail_back, fixture_back, footprint_back, kiosk_back, level_back, occupant_back, opening_back, relationship_back, unit_back, venue_back}

-- a value's compact text spells it
abbrev pub SpellsItself : Type 0
SpellsItself = (v : Json) → AllNumbers IsNumber v → HasTexts v → IsJson (compact v) v

map_same : {A B : Type 0} (f : A → B) (xs : List A) → xs ≡ map (λ x. x) xs
map_same f [] = refl
map_same f (x ∷ xs) = ap (λ rest. x ∷ rest) (map_same f xs)

items_spelled : (vs : List Json) → All (IsSpelled 6) vs → IsSpelled 7 (items (items_of vs))
items_spelled vs all = subst (λ (ws : List Json). IsSpelled 7 (items (items_of ws))) (sym (map_same (λ (v : Json). v) vs)) (list_spelled (IsSpelled 6) 6 (λ v. v) (λ v h. h) vs all)

pub collection_spelled : (vs : List Json) → All (IsSpelled 6) vs → IsSpelled 8 (collection vs)
collection_spelled vs all =
    object_spelled 7 (pair (codes "features") (items (items_of vs)) (pair (codes "type") (text (codes "FeatureCollection")) no_pairs))
    (pair_spelled 7 (codes "features") (items (items_of vs)) (pair (codes "type") (text (codes "FeatureCollection")) no_pairs) (word_utf8 (codes "features") refl) (items_spelled vs all)
    (pair_spelled 7 (codes "type") (text (codes "FeatureCollection")) no_pairs (word_utf8 (codes "type") refl) (text_spelled 7 (codes "FeatureCollection") (word_utf8 (codes "FeatureCollection") refl)) (no_pairs_spelled 7)))

pub manifest_spelled : IsSpelled 1 manifest
manifest_spelled =
    object_spelled 0 _
    (pair_spelled 0 (codes "created") (text []) _ (word_utf8 (codes "created") refl) (text_spelled 0 [] (word_utf8 [] refl))
    (pair_spelled 0 (codes "extensions") null _ (word_utf8 (codes "extensions") refl) (null_spelled 0)
    (pair_spelled 0 (codes "generated_by") null _ (word_utf8 (codes "generated_by") refl) (null_spelled 0)
    (pair_spelled 0 (codes "language") null _ (word_utf8 (codes "language") refl) (null_spelled 0)
    (pair_spelled 0 (codes "version") (text (codes "1.0.0")) no_pairs (word_utf8 (codes "version") refl) (text_spelled 0 (codes "1.0.0") (word_utf8 (codes "1.0.0") refl)) (no_pairs_spelled 0))))))

-- a spelled value is that of its file
pub spelled_value : SpellsItself → (n : ℕ) (v : Json) → n ≤ 64 → IsSpelled n v → ¬ IsLarge (Held (compact v)) → HasValue (Held (compact v)) v
spelled_value spells n v few h small = let deep = h.deep in (omega (arith, small), spells v h.numbers h.texts, omega arith)

pub content_there : SpellsItself → (vs : List Json) → All (IsSpelled 6) vs → ¬ IsLarge (collection_file vs) → IsContent (collection_file vs) (content_of vs)
content_there spells [] all small = λ v h. h
content_there spells (v ∷ vs) all small = spelled_value spells 8 (collection (v ∷ vs)) (omega arith) (collection_spelled (v ∷ vs) all) small

-- the items of a content are the features, in order
pub items_there : (vs : List Json) → content_items (content_of vs) ≡ vs
items_there [] = refl
items_there (v ∷ vs) = items_back (v ∷ vs)

pub slot_there : (features : Features) (f : File) → slice_get (canonical features) (file_number f) ≡ Some (canonical_file features f)
slot_there features file.Manifest = refl
slot_there features file.Address = refl
slot_there features file.Amenity = refl
slot_there features file.Anchor = refl
slot_there features file.Building = refl
slot_there features file.Detail = refl
slot_there features file.Fixture = refl
slot_there features file.Footprint = refl
slot_there features file.Geofence = refl
slot_there features file.Kiosk = refl
slot_there features file.Level = refl
slot_there features file.Occupant = refl
slot_there features file.Opening = refl
slot_there features file.Relationship = refl
slot_there features file.Section = refl
slot_there features file.Unit = refl
slot_there features file.Venue = refl

pub slot_of : (features : Features) (f : File) → f ≢ file.Manifest → canonical_file features f ≡ collection_file (features_of f features)
slot_of features file.Manifest not_manifest = absurd (not_manifest refl)
slot_of features file.Address not_manifest = refl
slot_of features file.Amenity not_manifest = refl
slot_of features file.Anchor not_manifest = refl
slot_of features file.Building not_manifest = refl
slot_of features file.Detail not_manifest = refl
slot_of features file.Fixture not_manifest = refl
slot_of features file.Footprint not_manifest = refl
slot_of features file.Geofence not_manifest = refl
slot_of features file.Kiosk not_manifest = refl
slot_of features file.Level not_manifest = refl
slot_of features file.Occupant not_manifest = refl
slot_of features file.Opening not_manifest = refl
slot_of features file.Relationship not_manifest = refl
slot_of features file.Section not_manifest = refl
slot_of features file.Unit not_manifest = refl
slot_of features file.Venue not_manifest = refl

pub small_there : (features : Features) (f : File) → IsWithinLimit features → ¬ IsLarge (canonical_file features f)
small_there features file.Manifest limit = limit 0 Absent (omega arith)
small_there features file.Address limit = limit 1 Absent (omega arith)
small_there features file.Amenity limit = limit 2 Absent (omega arith)
small_there features file.Anchor limit = limit 3 Absent (omega arith)
small_there features file.Building limit = limit 4 Absent (omega arith)
small_there features file.Detail limit = limit 5 Absent (omega arith)
small_there features file.Fixture limit = limit 6 Absent (omega arith)
small_there features file.Footprint limit = limit 7 Absent (omega arith)
small_there features file.Geofence limit = limit 8 Absent (omega arith)
small_there features file.Kiosk limit = limit 9 Absent (omega arith)
small_there features file.Level limit = limit 10 Absent (omega arith)
small_there features file.Occupant limit = limit 11 Absent (omega arith)
small_there features file.Opening limit = limit 12 Absent (omega arith)
small_there features file.Relationship limit = limit 13 Absent (omega arith)
small_there features file.Section limit = limit 14 Absent (omega arith)
small_there features file.Unit limit = limit 15 Absent (omega arith)
small_there features file.Venue limit = limit 16 Absent (omega arith)

-- what holds of the feature of each row
pub all_features : {Row : Type 0} (Fit : Row → Type 0) (P : Json → Type 0) (value : Row → Json) → ((row : Row) → Fit row → P (value row)) → (rows : List Row) → All Fit rows → All P (map value rows)
all_features Fit P value each rows fits = All-map P value rows (All-weaker Fit (λ row. P (value row)) each rows fits)

pub features_spelled : SameNumbers → (features : Features) (f : File) → FitsFeatures features → All (IsSpelled 6) (features_of f features)
features_spelled same features file.Manifest fits = All-nil (IsSpelled 6)
features_spelled same features file.Address fits = all_features FitsPlain (IsSpelled 6) (plain_feature file.Address) (plain_spelled file.Address) features.addresses fits.addresses
features_spelled same features file.Amenity fits = all_features FitsAmenity (IsSpelled 6) (amenity_feature file.Amenity) (amenity_spelled same file.Amenity) features.amenities fits.amenities
features_spelled same features file.Anchor fits = all_features FitsAnchor (IsSpelled 6) (anchor_feature file.Anchor) (anchor_spelled same file.Anchor) features.anchors fits.anchors
features_spelled same features file.Building fits = all_features FitsBuilding (IsSpelled 6) (building_feature file.Building) (building_spelled file.Building) features.buildings fits.buildings
features_spelled same features file.Detail fits = all_features FitsDetail (IsSpelled 6) (detail_feature file.Detail) (detail_spelled file.Detail) features.details fits.details
features_spelled same features file.Fixture fits = all_features FitsFixture (IsSpelled 6) (fixture_feature file.Fixture) (fixture_spelled same file.Fixture) features.fixtures fits.fixtures
features_spelled same features file.Footprint fits = all_features FitsFootprint (IsSpelled 6) (footprint_feature file.Footprint) (footprint_spelled same file.Footprint) features.footprints fits.footprints
features_spelled same features file.Geofence fits = all_features FitsPlain (IsSpelled 6) (plain_feature file.Geofence) (plain_spelled file.Geofence) features.geofences fits.geofences
features_spelled same features file.Kiosk fits = all_features FitsKiosk (IsSpelled 6) (kiosk_feature file.Kiosk) (kiosk_spelled file.Kiosk) features.kiosks fits.kiosks
features_spelled same features file.Level fits = all_features FitsLevel (IsSpelled 6) (level_feature file.Level) (level_spelled same file.Level) features.levels fits.levels
features_spelled same features file.Occupant fits = all_features FitsOccupant (IsSpelled 6) (occupant_feature file.Occupant) (occupant_spelled file.Occupant) features.occupants fits.occupants
features_spelled same features file.Opening fits = all_features FitsOpening (IsSpelled 6) (opening_feature file.Opening) (opening_spelled same file.Opening) features.openings fits.openings
features_spelled same features file.Relationship fits = all_features FitsRelationship (IsSpelled 6) (relationship_feature file.Relationship) (relationship_spelled file.Relationship) features.relationships fits.relationships
features_spelled same features file.Section fits = all_features FitsPlain (IsSpelled 6) (plain_feature file.Section) (plain_spelled file.Section) features.sections fits.sections
features_spelled same features file.Unit fits = all_features FitsUnit (IsSpelled 6) (unit_feature file.Unit) (unit_spelled same file.Unit) features.units fits.units
features_spelled same features file.Venue fits = all_features FitsVenue (IsSpelled 6) (venue_feature file.Venue) (venue_spelled same file.Venue) features.venues fits.venues

module _ (spells : SpellsItself) (same : SameNumbers) (features : Features) (fits : FitsFeatures features) (limit : IsWithinLimit features) where
  -- the slot of each file of features has its content
  pub content_is : (f : File) → f ≢ file.Manifest → IsContent (canonical_file features f) (content_of (features_of f features))
  content_is f not_manifest =
      let slot = slot_of features f not_manifest in
      let small : ¬ IsLarge (collection_file (features_of f features)) = subst (λ (s : Slot). ¬ IsLarge s) slot (small_there features f limit) in
      let is = content_there spells (features_of f features) (features_spelled same features f fits) small in
      subst (λ (s : Slot). IsContent s (content_of (features_of f features))) (sym slot) is

  pub content_held : (f : File) → f ≢ file.Manifest → HasContent (written features) f (content_of (features_of f features))
  content_held f not_manifest = record { slot = canonical_file features f; at = slot_there features f; is = content_is f not_manifest }

  rows_held : {Row : Type 0} (Fit : Row → Type 0) (IsRow : Json → Row → Type 0) (f : File) (value : Row → Json) (rows : List Row) → f ≢ file.Manifest → features_of f features ≡ map value rows
      → ((row : Row) → Fit row → IsRow (value row) row) → All Fit rows → AreRows IsRow (written features) f rows
  rows_held Fit IsRow f value rows not_manifest same_features back all = record {
    content = content_of (features_of f features);
    held = content_held f not_manifest;
    each = subst (λ (vs : List Json). AllZip IsRow vs rows) (sym (items_there (features_of f features))) (subst (λ (vs : List Json). AllZip IsRow vs rows) (sym same_features) (zip_back Fit IsRow value back rows all));
  }

  pub features_back : AreFeatures (written features) features
  features_back = record {
    addresses = rows_held FitsPlain IsPlainRow file.Address (plain_feature file.Address) features.addresses (λ e. cc) refl (plain_back file.Address) fits.addresses;
    amenities = rows_held FitsAmenity IsAmenityRow file.Amenity (amenity_feature file.Amenity) features.amenities (λ e. cc) refl (amenity_back file.Amenity) fits.amenities;
    anchors = rows_held FitsAnchor IsAnchorRow file.Anchor (anchor_feature file.Anchor) features.anchors (λ e. cc) refl (anchor_back file.Anchor) fits.anchors;
    buildings = rows_held FitsBuilding IsBuildingRow file.Building (building_feature file.Building) features.buildings (λ e. cc) refl (building_back file.Building) fits.buildings;
    details = rows_held FitsDetail IsDetailRow file.Detail (detail_feature file.Detail) features.details (λ e. cc) refl (detail_back file.Detail) fits.details;
    fixtures = rows_held FitsFixture IsFixtureRow file.Fixture (fixture_feature file.Fixture) features.fixtures (λ e. cc) refl (fixture_back file.Fixture) fits.fixtures;
    footprints = rows_held FitsFootprint IsFootprintRow file.Footprint (footprint_feature file.Footprint) features.footprints (λ e. cc) refl (footprint_back file.Footprint) fits.footprints;
    geofences = rows_held FitsPlain IsPlainRow file.Geofence (plain_feature file.Geofence) features.geofences (λ e. cc) refl (plain_back file.Geofence) fits.geofences;
    kiosks = rows_held FitsKiosk IsKioskRow file.Kiosk (kiosk_feature file.Kiosk) features.kiosks (λ e. cc) refl (kiosk_back file.Kiosk) fits.kiosks;
    levels = rows_held FitsLevel IsLevelRow file.Level (level_feature file.Level) features.levels (λ e. cc) refl (level_back file.Level) fits.levels;
    occupants = rows_held FitsOccupant IsOccupantRow file.Occupant (occupant_feature file.Occupant) features.occupants (λ e. cc) refl (occupant_back file.Occupant) fits.occupants;
    openings = rows_held FitsOpening IsOpeningRow file.Opening (opening_feature file.Opening) features.openings (λ e. cc) refl (opening_back file.Opening) fits.openings;
    relationships = rows_held FitsRelationship IsRelationshipRow file.Relationship (relationship_feature file.Relationship) features.relationships (λ e. cc) refl (relationship_back file.Relationship) fits.relationships;
    sections = rows_held FitsPlain IsPlainRow file.Section (plain_feature file.Section) features.sections (λ e. cc) refl (plain_back file.Section) fits.sections;
    units = rows_held FitsUnit IsUnitRow file.Unit (unit_feature file.Unit) features.units (λ e. cc) refl (unit_back file.Unit) fits.units;
    venues = rows_held FitsVenue IsVenueRow file.Venue (venue_feature file.Venue) features.venues (λ e. cc) refl (venue_back file.Venue) fits.venues;
  }
