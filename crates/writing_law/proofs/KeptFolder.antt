-- The folder of the fixed form breaks no rule on the folder: its features and positions are those of its rows.
use Rattle.std.proofs.Common.{◌≡◌, ◌≢◌, ◌∙◌, ℕ, ◌+◌, ◌≤◌, List, [], ◌∷◌, ◌++◌, length, map, drop, Option, Some, None, Bool, true, false, if◌then◌else◌, refl, sym, ap, subst, arith}
use Rattle.std.specs.Prelude.{All, sum_by}
use Rattle.std.specs.List.{AllZip, AllByRecursion, flat_map}
use Rattle.std.proofs.lemmas.List.{length-map, length-append}
use Rattle.std.proofs.lemmas.List.Sums.{sum_by-cons}
use Rattle.std.proofs.lemmas.List.Folds.{flat_map-map}
use Rattle.std.proofs.lemmas.List.Concat.{flat_map_single}
use Rattle.std.proofs.lemmas.List.Elements.{All-head, All-tail}
use Rattle.std.proofs.lemmas.Slice.Zip.{AllZip-long}
use Rattle.exact_json.specs.Json.{Json}
use Rattle.geo_shapes.specs.Numbers.{SameNumbers}
use Rattle.geo_shapes.specs.Position.{IsPosition}
use Rattle.geo_shapes.specs.Geometry.{shape_places}
use Rattle.venue_types.specs.declared.features.Features.{Features}
use Rattle.venue_types.specs.declared.features.AmenityRow.{AmenityRow}
use Rattle.venue_types.specs.declared.features.AnchorRow.{AnchorRow}
use Rattle.venue_types.specs.declared.features.OpeningRow.{OpeningRow}
use Rattle.venue_types.specs.declared.files.Files.{Files}
use Rattle.venue_types.specs.declared.files.Slot.{Slot}
use Rattle.venue_types.specs.declared.files.Slot.TheVariants.{Absent, Held}
use Rattle.venue_types.specs.declared.folder_file.File.{File}
use Rattle.venue_types.specs.declared.folder_file.File.TheVariants as file
use Rattle.venue_types.specs.declared.point.Point.{Point}
use Rattle.venue_types.specs.declared.point.Shape.{Shape}
use Rattle.venue_types.specs.FolderFiles.{geometry_of, feature_files}
use Rattle.venue_types.proofs.Zips.{zip_one}
use Rattle.imdf_schema.specs.Items.{geometry}
use Rattle.imdf_schema.specs.Contents.{IsContent, HasContent}
use Rattle.imdf_read.specs.Counts.{places_of, is_judged, item_positions, collected, file_positions, total_positions, AreContents}
use Rattle.plane_exact.specs.Figure.{vertices}
use Rattle.imdf_read.specs.Rows.{ids_of, feature_count}
use Rattle.imdf_read.specs.Figures.{positions_of, positions}
use Rattle.imdf_write.specs.Values.{shape_value}
use Rattle.imdf_write.specs.Rows.{plain_feature, amenity_feature, anchor_feature, building_feature, detail_feature, fixture_feature, footprint_feature, kiosk_feature, level_feature, occupant_feature, opening_feature, relationship_feature, unit_feature, venue_feature}
use Rattle.imdf_write.specs.Folder.{features_of, canonical_file, canonical}
use Rattle.writing_law.specs.Fit.{FitsShape, FitsFixture, FitsFootprint, FitsLevel, FitsOpening, FitsUnit, FitsVenue}
use Rattle.writing_law.specs.Written.{FitsFeatures, written, IsWithinLimit, content_of}
use Rattle.writing_law.proofs.Lists.{items_back}
use Rattle.writing_law.proofs.Figures.{line_back, shape_back}
use Rattle.writing_law.proofs.NoBreaks.{shape_positions}
use Rattle.writing_law.proofs.Files.{SpellsItself, content_is, items_there}
use Rattle.writing_law.proofs.KeptFiles.{HasOneJson}

-- ---- one content

same_content : HasOneJson → (slot : Slot) (a b : Option Json) → IsContent slot a → IsContent slot b → a ≡ b
same_content one slot None None x y = refl
same_content one slot None (Some w) x y = absurd (x w y)
same_content one slot (Some v) None x y = absurd (y v x)
same_content one Absent (Some v) (Some w) x y = absurd x
same_content one (Held bytes) (Some v) (Some w) x y = ap Some (one bytes v w x.1 y.1)

same_slot : (a b : Slot) (o : Option Slot) → o ≡ Some a → o ≡ Some b → a ≡ b
same_slot a b o p q = cc

-- a file has one content
pub one_content : HasOneJson → (files : Files) (f : File) (a b : Option Json) → HasContent files f a → HasContent files f b → a ≡ b
one_content one files f a b x y = same_content one y.slot a b (subst (λ (s : Slot). IsContent s a) (same_slot x.slot y.slot _ x.at y.at) x.is) y.is

zip_maps : {A B C : Type 0} (R : B → C → Type 0) (g : A → B) (h : A → C) (xs : List A) → AllByRecursion (λ x. R (g x) (h x)) xs → AllZip R (map g xs) (map h xs)
zip_maps R g h [] all = tt
zip_maps R g h (x ∷ xs) all = (all.0, zip_maps R g h xs all.1)

beside : {A B : Type 0} → A → B → A × B
beside a b = (a, b)

each_file : (P : File → Type 0) → ((f : File) → f ≢ file.Manifest → P f) → AllByRecursion P feature_files
each_file P h =
    beside (h file.Address (λ e. cc))
    (beside (h file.Amenity (λ e. cc))
    (beside (h file.Anchor (λ e. cc))
    (beside (h file.Building (λ e. cc))
    (beside (h file.Detail (λ e. cc))
    (beside (h file.Fixture (λ e. cc))
    (beside (h file.Footprint (λ e. cc))
    (beside (h file.Geofence (λ e. cc))
    (beside (h file.Kiosk (λ e. cc))
    (beside (h file.Level (λ e. cc))
    (beside (h file.Occupant (λ e. cc))
    (beside (h file.Opening (λ e. cc))
    (beside (h file.Relationship (λ e. cc))
    (beside (h file.Section (λ e. cc))
    (beside (h file.Unit (λ e. cc))
    (beside (h file.Venue (λ e. cc)) tt)))))))))))))))

-- ---- features

collected_are : (vs : List Json) → collected (content_of vs) ≡ length vs
collected_are [] = refl
collected_are (v ∷ vs) = ap length (items_back (v ∷ vs))

both_long : {Row A B : Type 0} (g : Row → A) (h : Row → B) (rows : List Row) → length (map g rows) ≡ length (map h rows)
both_long g h rows = length-map rows g ∙ sym (length-map rows h)

features_counted : (features : Features) (f : File) → length (features_of f features) ≡ length (ids_of f features)
features_counted features file.Manifest = refl
features_counted features file.Address = both_long (plain_feature file.Address) (λ row. row.id) features.addresses
features_counted features file.Amenity = both_long (amenity_feature file.Amenity) (λ row. row.id) features.amenities
features_counted features file.Anchor = both_long (anchor_feature file.Anchor) (λ row. row.id) features.anchors
features_counted features file.Building = both_long (building_feature file.Building) (λ row. row.id) features.buildings
features_counted features file.Detail = both_long (detail_feature file.Detail) (λ row. row.id) features.details
features_counted features file.Fixture = both_long (fixture_feature file.Fixture) (λ row. row.id) features.fixtures
features_counted features file.Footprint = both_long (footprint_feature file.Footprint) (λ row. row.id) features.footprints
features_counted features file.Geofence = both_long (plain_feature file.Geofence) (λ row. row.id) features.geofences
features_counted features file.Kiosk = both_long (kiosk_feature file.Kiosk) (λ row. row.id) features.kiosks
features_counted features file.Level = both_long (level_feature file.Level) (λ row. row.id) features.levels
features_counted features file.Occupant = both_long (occupant_feature file.Occupant) (λ row. row.id) features.occupants
features_counted features file.Opening = both_long (opening_feature file.Opening) (λ row. row.id) features.openings
features_counted features file.Relationship = both_long (relationship_feature file.Relationship) (λ row. row.id) features.relationships
features_counted features file.Section = both_long (plain_feature file.Section) (λ row. row.id) features.sections
features_counted features file.Unit = both_long (unit_feature file.Unit) (λ row. row.id) features.units
features_counted features file.Venue = both_long (venue_feature file.Venue) (λ row. row.id) features.venues

abbrev contents : Features → List File → List (Option Json)
contents features fs = map (λ f. content_of (features_of f features)) fs

features_sum : (features : Features) (fs : List File) → sum_by collected (contents features fs) ≡ sum_by (λ f. length (ids_of f features)) fs
features_sum features [] = refl
features_sum features (f ∷ fs) =
    let left : sum_by collected (contents features (f ∷ fs)) ≡ collected (content_of (features_of f features)) + sum_by collected (contents features fs) =
    sum_by-cons collected (content_of (features_of f features)) (contents features fs) in
    let right : sum_by (λ f. length (ids_of f features)) (f ∷ fs) ≡ length (ids_of f features) + sum_by (λ f. length (ids_of f features)) fs = sum_by-cons (λ f. length (ids_of f features)) f fs in
    let here : collected (content_of (features_of f features)) ≡ length (ids_of f features) = collected_are (features_of f features) ∙ features_counted features f in
    let rest = features_sum features fs in
    omega arith

-- ---- positions

if_more : (b : Bool) (n : ℕ) → (if b then n else 0) ≤ n
if_more true n = omega arith
if_more false n = omega arith

item_most : (f : File) (v : Json) → item_positions f v ≤ length (places_of (geometry_of f) (geometry v))
item_most f v = if_more (is_judged f v) (length (places_of (geometry_of f) (geometry v)))

-- rows whose values have no positions
none_of : {Row : Type 0} (h : Json → ℕ) (value : Row → Json) → ((row : Row) → h (value row) ≤ 0) → (rows : List Row) → sum_by h (map value rows) ≤ 0
none_of h value none [] = omega arith
none_of h value none (row ∷ rows) =
    let sum : sum_by h (map value (row ∷ rows)) ≡ h (value row) + sum_by h (map value rows) = sum_by-cons h (value row) (map value rows) in
    let here = none row in
    let rest = none_of h value none rows in
    omega arith

-- rows whose values have no more positions than they themselves
few_of : {Row : Type 0} (Fit : Row → Type 0) (h : Json → ℕ) (value : Row → Json) (g : Row → List Point) → ((row : Row) → Fit row → h (value row) ≤ length (g row)) → (rows : List Row) → All Fit rows
    → sum_by h (map value rows) ≤ length (flat_map g rows)
few_of Fit h value g few [] fits = omega arith
few_of Fit h value g few (row ∷ rows) fits =
    let sum : sum_by h (map value (row ∷ rows)) ≡ h (value row) + sum_by h (map value rows) = sum_by-cons h (value row) (map value rows) in
    let here = few row (All-head Fit row rows fits) in
    let rest = few_of Fit h value g few rows (All-tail Fit row rows fits) in
    let long : length (g row ++ flat_map g rows) ≡ length (g row) + length (flat_map g rows) = length-append (g row) (flat_map g rows) in
    omega arith

-- rows with a position each
points_of : {Row : Type 0} (f : File) (value : Row → Json) (point : Row → Point) → ((row : Row) → item_positions f (value row) ≤ 1) → (rows : List Row) → sum_by (item_positions f) (map value rows) ≤ length (map point rows)
points_of {Row} f value point one rows =
    let few = few_of (λ (row : Row). Unit {0}) (item_positions f) value (λ row. point row ∷ []) (λ row any. one row) rows (λ k d h. tt) in
    subst (λ (ps : List Point). sum_by (item_positions f) (map value rows) ≤ length ps) (flat_map_single point rows) few

-- rows with a shape each
shapes_of : {Row : Type 0} (Fit : Row → Type 0) (f : File) (value : Row → Json) (shape : Row → Shape) → ((row : Row) → item_positions f (value row) ≤ length (shape_places (shape_value (shape row))))
    → ((row : Row) → Fit row → FitsShape (shape row)) → (rows : List Row) → All Fit rows → sum_by (item_positions f) (map value rows) ≤ length (flat_map vertices (map shape rows))
shapes_of Fit f value shape most fit rows fits =
    let few = few_of Fit (item_positions f) value (λ row. vertices (shape row))
    (λ row h.
    let long : length (vertices (shape row)) ≡ length (shape_places (shape_value (shape row))) =
    AllZip-long IsPosition (shape_places (shape_value (shape row))) (vertices (shape row)) (shape_positions (shape_value (shape row)) (shape row) (shape_back (shape row) (fit row h))) in
    let less = most row in
    omega arith)
    rows fits in
    subst (λ (ps : List Point). sum_by (item_positions f) (map value rows) ≤ length ps) (sym (flat_map-map vertices shape rows)) few

line_few : (row : OpeningRow) → FitsOpening row → item_positions file.Opening (opening_feature file.Opening row) ≤ length row.line.points
line_few row fits =
    let long = AllZip-long IsPosition _ row.line.points (line_back row.line fits.line).points in
    let less = item_most file.Opening (opening_feature file.Opening row) in
    omega arith

positions_counted : (features : Features) (f : File) → FitsFeatures features → sum_by (item_positions f) (features_of f features) ≤ length (positions_of f features)
positions_counted features file.Manifest fits = omega arith
positions_counted features file.Address fits = none_of (item_positions file.Address) (plain_feature file.Address) (λ row. item_most file.Address (plain_feature file.Address row)) features.addresses
positions_counted features file.Amenity fits = points_of file.Amenity (amenity_feature file.Amenity) (λ (row : AmenityRow). row.point) (λ row. item_most file.Amenity (amenity_feature file.Amenity row)) features.amenities
positions_counted features file.Anchor fits = points_of file.Anchor (anchor_feature file.Anchor) (λ (row : AnchorRow). row.point) (λ row. item_most file.Anchor (anchor_feature file.Anchor row)) features.anchors
positions_counted features file.Building fits = none_of (item_positions file.Building) (building_feature file.Building) (λ row. item_most file.Building (building_feature file.Building row)) features.buildings
positions_counted features file.Detail fits = none_of (item_positions file.Detail) (detail_feature file.Detail) (λ row. item_most file.Detail (detail_feature file.Detail row)) features.details
positions_counted features file.Fixture fits = shapes_of FitsFixture file.Fixture (fixture_feature file.Fixture) (λ row. row.shape) (λ row. item_most file.Fixture (fixture_feature file.Fixture row)) (λ row h. h.shape) features.fixtures fits.fixtures
positions_counted features file.Footprint fits = shapes_of FitsFootprint file.Footprint (footprint_feature file.Footprint) (λ row. row.shape) (λ row. item_most file.Footprint (footprint_feature file.Footprint row)) (λ row h. h.shape) features.footprints fits.footprints
positions_counted features file.Geofence fits = none_of (item_positions file.Geofence) (plain_feature file.Geofence) (λ row. item_most file.Geofence (plain_feature file.Geofence row)) features.geofences
positions_counted features file.Kiosk fits = none_of (item_positions file.Kiosk) (kiosk_feature file.Kiosk) (λ row. item_most file.Kiosk (kiosk_feature file.Kiosk row)) features.kiosks
positions_counted features file.Level fits = shapes_of FitsLevel file.Level (level_feature file.Level) (λ row. row.shape) (λ row. item_most file.Level (level_feature file.Level row)) (λ row h. h.shape) features.levels fits.levels
positions_counted features file.Occupant fits = none_of (item_positions file.Occupant) (occupant_feature file.Occupant) (λ row. item_most file.Occupant (occupant_feature file.Occupant row)) features.occupants
positions_counted features file.Opening fits = few_of FitsOpening (item_positions file.Opening) (opening_feature file.Opening) (λ row. row.line.points) line_few features.openings fits.openings
positions_counted features file.Relationship fits = none_of (item_positions file.Relationship) (relationship_feature file.Relationship) (λ row. item_most file.Relationship (relationship_feature file.Relationship row)) features.relationships
positions_counted features file.Section fits = none_of (item_positions file.Section) (plain_feature file.Section) (λ row. item_most file.Section (plain_feature file.Section row)) features.sections
positions_counted features file.Unit fits = shapes_of FitsUnit file.Unit (unit_feature file.Unit) (λ row. row.shape) (λ row. item_most file.Unit (unit_feature file.Unit row)) (λ row h. h.shape) features.units fits.units
positions_counted features file.Venue fits = shapes_of FitsVenue file.Venue (venue_feature file.Venue) (λ row. row.shape) (λ row. item_most file.Venue (venue_feature file.Venue row)) (λ row h. h.shape) features.venues fits.venues

positions_sum : (features : Features) → FitsFeatures features → (fs : List File) → total_positions fs (contents features fs) ≤ length (flat_map (λ f. positions_of f features) fs)
positions_sum features fits [] = omega arith
positions_sum features fits (f ∷ fs) =
    let same : file_positions f (content_of (features_of f features)) ≡ sum_by (item_positions f) (features_of f features) = ap (sum_by (item_positions f)) (items_there (features_of f features)) in
    let here = positions_counted features f fits in
    let rest = positions_sum features fits fs in
    let long : length (positions_of f features ++ flat_map (λ f. positions_of f features) fs) ≡ length (positions_of f features) + length (flat_map (λ f. positions_of f features) fs) =
    length-append (positions_of f features) (flat_map (λ f. positions_of f features) fs) in
    omega arith

-- ---- the folder

module _ (spells : SpellsItself) (one : HasOneJson) (same : SameNumbers) (features : Features) (fits : FitsFeatures features) (limit : IsWithinLimit features) where
  ours : AreContents (written features) (contents features feature_files)
  ours = zip_maps IsContent (canonical_file features) (λ f. content_of (features_of f features)) feature_files
      (each_file (λ f. IsContent (canonical_file features f) (content_of (features_of f features))) (content_is spells same features fits limit))

  -- the contents of the files are those of the features
  only_ours : (cs : List (Option Json)) → AreContents (written features) cs → cs ≡ contents features feature_files
  only_ours cs are = zip_one IsContent (same_content one) (drop 1 (canonical features)) cs (contents features feature_files) are ours

  pub few_features : (cs : List (Option Json)) → AreContents (written features) cs → sum_by collected cs ≤ 100000
  few_features cs are =
      let all : sum_by collected cs ≡ sum_by collected (contents features feature_files) = ap (sum_by collected) (only_ours cs are) in
      let count : sum_by collected (contents features feature_files) ≡ feature_count features = features_sum features feature_files in
      let few = fits.sound.few_features in
      omega arith

  pub few_positions : (cs : List (Option Json)) → AreContents (written features) cs → total_positions feature_files cs ≤ 1000000
  few_positions cs are =
      let all : total_positions feature_files cs ≡ total_positions feature_files (contents features feature_files) = ap (total_positions feature_files) (only_ours cs are) in
      let count : total_positions feature_files (contents features feature_files) ≤ length (positions features) = positions_sum features fits feature_files in
      let few = fits.sound.few_positions in
      omega arith
