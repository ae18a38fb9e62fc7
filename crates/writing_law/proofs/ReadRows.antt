-- The rows of a folder in which the first phase finds nothing keep what they are to keep.
use Rattle.std.proofs.Common.{◌≡◌, ◌≢◌, ℕ, suc, ◌≤◌, List, [], ◌∷◌, length, map, Option, Some, None, is_some, Bool, true, false, not, refl, sym, subst, inl, inr, arith, codes, ◌+◌, ◌*◌}
use Rattle.std.specs.Prelude.{All, IfSome, Contains, slice_get}
use Rattle.std.specs.List.{AllZip, AllByRecursion, filter_map, cons_option}
use Rattle.std.specs.Str.{IsUtf8}
use Rattle.std.proofs.lemmas.List.Elements.{All-nil, All-cons, All-head, All-tail}
use Rattle.exact_json.specs.Json.{Json, member, HasTexts}
use Rattle.geo_shapes.specs.Position.{IsPosition}
use Rattle.geo_shapes.specs.Geometry.{coordinates, line_places, shape_places, HasLine, HasShape}
use Rattle.venue_types.specs.declared.feature_id.FeatureId.{FeatureId}
use Rattle.venue_types.specs.declared.features.Features.{Features}
use Rattle.venue_types.specs.declared.features.Label.{Label}
use Rattle.venue_types.specs.declared.features.Ref.{Ref}
use Rattle.venue_types.specs.declared.features.PlainRow.{PlainRow}
use Rattle.venue_types.specs.declared.features.AmenityRow.{AmenityRow}
use Rattle.venue_types.specs.declared.features.AnchorRow.{AnchorRow}
use Rattle.venue_types.specs.declared.features.BuildingRow.{BuildingRow}
use Rattle.venue_types.specs.declared.features.DetailRow.{DetailRow}
use Rattle.venue_types.specs.declared.features.FixtureRow.{FixtureRow}
use Rattle.venue_types.specs.declared.features.FootprintRow.{FootprintRow}
use Rattle.venue_types.specs.declared.features.KioskRow.{KioskRow}
use Rattle.venue_types.specs.declared.features.LevelRow.{LevelRow}
use Rattle.venue_types.specs.declared.features.OccupantRow.{OccupantRow}
use Rattle.venue_types.specs.declared.features.OpeningRow.{OpeningRow}
use Rattle.venue_types.specs.declared.features.RelationshipRow.{RelationshipRow}
use Rattle.venue_types.specs.declared.features.UnitRow.{UnitRow}
use Rattle.venue_types.specs.declared.features.VenueRow.{VenueRow}
use Rattle.venue_types.specs.declared.files.Files.{Files}
use Rattle.venue_types.specs.declared.files.Slot.{Slot}
use Rattle.venue_types.specs.declared.files.Slot.TheVariants.{Absent, Held}
use Rattle.venue_types.specs.declared.folder_file.File.{File}
use Rattle.venue_types.specs.declared.folder_file.File.TheVariants as file
use Rattle.venue_types.specs.declared.point.Point.{Point}
use Rattle.venue_types.specs.declared.point.Line.{Line}
use Rattle.venue_types.specs.declared.point.Shape.{Shape}
use Rattle.venue_types.proofs.Zips.{zip_all}
use Rattle.imdf_schema.specs.declared.forms.Form.TheVariants as form
use Rattle.imdf_schema.specs.declared.table.Property.{Property}
use Rattle.imdf_schema.specs.declared.table.Property.TheVariants as property
use Rattle.imdf_schema.specs.declared.table.PropertyRow.{PropertyRow}
use Rattle.imdf_schema.specs.declared.table.ReferenceTarget.TheVariants as target
use Rattle.imdf_schema.specs.Values.{listed, id_of, is_id}
use Rattle.imdf_schema.specs.Properties.{properties, property_name}
use Rattle.imdf_schema.specs.Forms.{is_empty}
use Rattle.imdf_schema.specs.Items as item
use Rattle.imdf_schema.specs.Items.{is_feature, geometry}
use Rattle.imdf_schema.specs.Contents.{IsContent, HasContent, content_items}
use Rattle.imdf_schema.specs.Places.{finding_at}
use Rattle.imdf_rows.specs.Fields.{id_field, ids_field, ref_of, refs_field, labels_field, IsDisplay}
use Rattle.imdf_rows.specs.Laws.{IsOneDoor, IsPassageOrNone}
use Rattle.imdf_rows.specs.Rows.{IsPlainRow, IsAmenityRow, IsAnchorRow, IsBuildingRow, IsDetailRow, IsFixtureRow, IsFootprintRow, IsKioskRow, IsLevelRow, IsOccupantRow, IsOpeningRow, IsRelationshipRow, IsUnitRow, IsVenueRow}
use Rattle.imdf_rows.specs.Folder.{AreRows, AreFeatures}
use Rattle.imdf_rows.proofs.Texts.{member_has, listed_has, text_has}
use Rattle.imdf_schema.specs.declared.rules.Rule.TheVariants.{C2, C6}
use Rattle.imdf_read.specs.Ordinals.{IsInRange}
use Rattle.plane_exact.specs.Figure.{vertices}
use Rattle.imdf_read.specs.Sound.{IsOnEarth, IsSoundShape, AreSound}
use Rattle.writing_law.specs.Fit.{FitsId, FitsRef, FitsName, FitsLine, FitsShape, FitsPlain, FitsAmenity, FitsAnchor, FitsBuilding, FitsDetail, FitsFixture, FitsFootprint, FitsKiosk, FitsLevel, FitsOccupant, FitsOpening, FitsRelationship, FitsUnit, FitsVenue}
use Rattle.writing_law.specs.Written.{FitsFeatures, FindsNothing}
use Rattle.writing_law.proofs.NoBreaks.{shape_positions}
use Rattle.writing_law.proofs.Keeps.{BreaksNone}
use Rattle.writing_law.proofs.Texts.{texts_of}
use Rattle.writing_law.proofs.ReadFields.{id_fits, id_field_fits, ids_field_fits, ref_fits, refs_field_fits, name_fits}

-- ---- figures

on_earth : (v : Json) (p : Point) → IsPosition v p → IsOnEarth p
on_earth v p is = record { west = is.x.low; east = is.x.high; south = is.y.low; north = is.y.high }

line_fits : (v : Json) (line : Line) → HasLine v line → FitsLine line
line_fits v line has = record { points = zip_all IsPosition IsOnEarth on_earth (line_places v) line.points has.points; two = has.two }

shape_fits : (v : Json) (shape : Shape) → HasShape v shape → IsSoundShape shape → FitsShape shape
shape_fits v shape has sound = record { points = zip_all IsPosition IsOnEarth on_earth (shape_places v) (vertices shape) (shape_positions v shape has); sound = sound }

display_fits : (v : Json) (display : Option Point) → IsDisplay v display → IfSome display IsOnEarth
display_fits v None is = tt
display_fits v (Some p) is = on_earth (coordinates v) p is

-- ---- fields of a row

property_has : (v : Json) (p : Property) → HasTexts v → HasTexts (item.property v p)
property_has v p texts = member_has (member v (codes "properties")) (property_name p) (member_has v (codes "properties") texts)

id_there : (id : FeatureId) (w : Json) → id ≡ id_field w → FitsId id
id_there id w e = subst FitsId (sym e) (id_field_fits w)

id_or_none : (id : Option FeatureId) (w : Json) → id ≡ id_of w → IfSome id FitsId
id_or_none id w e = subst (λ (o : Option FeatureId). IfSome o FitsId) (sym e) (id_fits w)

ids_there : (ids : List FeatureId) (w : Json) → ids ≡ ids_field w → All FitsId ids
ids_there ids w e = subst (All FitsId) (sym e) (ids_field_fits w)

ref_or_none : (r : Option Ref) (w : Json) → r ≡ ref_of w → IfSome r FitsRef
ref_or_none r w e = subst (λ (o : Option Ref). IfSome o FitsRef) (sym e) (ref_fits w)

refs_there : (rs : List Ref) (w : Json) → rs ≡ refs_field w → All FitsRef rs
refs_there rs w e = subst (All FitsRef) (sym e) (refs_field_fits w)

name_there : (labels : List Label) (w : Json) → labels ≡ labels_field w → HasTexts w → FitsName labels
name_there labels w e texts = subst FitsName (sym e) (name_fits w texts)

-- ---- rows

plain_fits : (v : Json) (row : PlainRow) → IsPlainRow v row → FitsPlain row
plain_fits v row is = record { id = id_there row.id (member v (codes "id")) is.id }

anchor_fits : (v : Json) (row : AnchorRow) → IsAnchorRow v row → FitsAnchor row
anchor_fits v row is = record {
  id = id_there row.id (member v (codes "id")) is.id;
  address = id_or_none row.address (item.property v property.AddressId) is.address;
  unit = id_there row.unit (item.property v property.UnitId) is.unit;
  point = on_earth (coordinates (geometry v)) row.point is.point;
}

building_fits : (v : Json) (row : BuildingRow) → IsBuildingRow v row → FitsBuilding row
building_fits v row is = record { id = id_there row.id (member v (codes "id")) is.id; address = id_or_none row.address (item.property v property.AddressId) is.address }

detail_fits : (v : Json) (row : DetailRow) → IsDetailRow v row → FitsDetail row
detail_fits v row is = record { id = id_there row.id (member v (codes "id")) is.id; level = id_or_none row.level (item.property v property.LevelId) is.level }

fixture_fits : (v : Json) (row : FixtureRow) → IsFixtureRow v row → IsSoundShape row.shape → FitsFixture row
fixture_fits v row is sound = record {
  id = id_there row.id (member v (codes "id")) is.id;
  level = id_or_none row.level (item.property v property.LevelId) is.level;
  anchor = id_or_none row.anchor (item.property v property.AnchorId) is.anchor;
  shape = shape_fits (geometry v) row.shape is.shape sound;
}

footprint_fits : (v : Json) (row : FootprintRow) → IsFootprintRow v row → IsSoundShape row.shape → FitsFootprint row
footprint_fits v row is sound = record {
  id = id_there row.id (member v (codes "id")) is.id;
  buildings = ids_there row.buildings (item.property v property.BuildingIds) is.buildings;
  shape = shape_fits (geometry v) row.shape is.shape sound;
}

kiosk_fits : (v : Json) (row : KioskRow) → IsKioskRow v row → FitsKiosk row
kiosk_fits v row is = record {
  id = id_there row.id (member v (codes "id")) is.id;
  level = id_or_none row.level (item.property v property.LevelId) is.level;
  anchor = id_or_none row.anchor (item.property v property.AnchorId) is.anchor;
}

level_fits : (v : Json) (row : LevelRow) → IsLevelRow v row → IsSoundShape row.shape → IsInRange row → FitsLevel row
level_fits v row is sound range = record {
  id = id_there row.id (member v (codes "id")) is.id;
  address = id_or_none row.address (item.property v property.AddressId) is.address;
  buildings = ids_there row.buildings (item.property v property.BuildingIds) is.buildings;
  ordinal = range;
  shape = shape_fits (geometry v) row.shape is.shape sound;
}

occupant_fits : (v : Json) (row : OccupantRow) → HasTexts v → IsOccupantRow v row → FitsOccupant row
occupant_fits v row texts is = record {
  id = id_there row.id (member v (codes "id")) is.id;
  anchor = id_there row.anchor (item.property v property.AnchorId) is.anchor;
  name = name_there row.name (item.property v property.Name) is.name (property_has v property.Name texts);
}

opening_fits : (v : Json) (row : OpeningRow) → IsOpeningRow v row → IsOneDoor row → FitsOpening row
opening_fits v row is door = record {
  id = id_there row.id (member v (codes "id")) is.id;
  level = id_there row.level (item.property v property.LevelId) is.level;
  line = line_fits (geometry v) row.line is.line;
  door = door;
}

relationship_fits : (v : Json) (row : RelationshipRow) → IsRelationshipRow v row → IsPassageOrNone row → FitsRelationship row
relationship_fits v row is passage = record {
  id = id_there row.id (member v (codes "id")) is.id;
  passage = passage;
  origin = ref_or_none row.origin (item.property v property.Origin) is.origin;
  between = refs_there row.between (item.property v property.Intermediary) is.between;
  destination = ref_or_none row.destination (item.property v property.Destination) is.destination;
}

unit_fits : (v : Json) (row : UnitRow) → HasTexts v → IsUnitRow v row → IsSoundShape row.shape → FitsUnit row
unit_fits v row texts is sound = record {
  id = id_there row.id (member v (codes "id")) is.id;
  level = id_there row.level (item.property v property.LevelId) is.level;
  shape = shape_fits (geometry v) row.shape is.shape sound;
  display = display_fits (item.property v property.DisplayPoint) row.display is.display;
  category = subst IsUtf8 (sym is.category) (text_has (item.property v property.Category) (property_has v property.Category texts));
  name = name_there row.name (item.property v property.Name) is.name (property_has v property.Name texts);
}

venue_fits : (v : Json) (row : VenueRow) → IsVenueRow v row → IsSoundShape row.shape → FitsVenue row
venue_fits v row is sound = record {
  id = id_there row.id (member v (codes "id")) is.id;
  address = id_or_none row.address (item.property v property.AddressId) is.address;
  shape = shape_fits (geometry v) row.shape is.shape sound;
}

-- ---- an amenity has a unit

pub true_of : (b : Bool) → ¬ (b ≡ false) → b ≡ true
true_of true h = refl
true_of false h = absurd (h refl)

one_more : (o : Option FeatureId) (ids : List FeatureId) → is_some o ≡ true → 1 ≤ length (cons_option o ids)
one_more None ids e = absurd (cc)
one_more (Some id) ids e = omega arith

some_id : (vs : List Json) → not (is_empty vs) ≡ true → ((k : ℕ) (v : Json) → slice_get vs k ≡ Some v → is_id v ≡ true) → 1 ≤ length (filter_map id_of vs)
some_id [] e each = absurd (cc)
some_id (v ∷ vs) e each = one_more (id_of v) (filter_map id_of vs) (each 0 v refl)

-- the row of the table on the units of amenities
units_row : PropertyRow
units_row = record { property = property.UnitIds; file = file.Amenity; form = form.Ids; names = target.Unit }

amenity_units : (v : Json) → BreaksNone file.Amenity v → 1 ≤ length (filter_map id_of (listed (item.property v property.UnitIds)))
unfolding units_row
amenity_units v keeps =
    let feature : is_feature v ≡ true = true_of (is_feature v) (λ e. keeps C2 0 (e, refl)) in
    let there : Contains properties units_row = (13, omega arith, refl) in
    let some : not (is_empty (listed (item.property v property.UnitIds))) ≡ true =
    true_of (not (is_empty (listed (item.property v property.UnitIds)))) (λ e. keeps C6 5 (feature, (units_row, there, refl, inl ((λ fits. not_both _ fits e), refl)))) in
    some_id (listed (item.property v property.UnitIds)) some
    (λ k w at. true_of (is_id w) (λ e. keeps C6 (5 + 64 * k) (feature, (units_row, there, refl, inr (k, w, at, e, refl)))))
  where
    not_both : (b : Bool) → b ≡ true → b ≡ false → ⊥
    not_both b p q = cc

amenity_fits : (v : Json) (row : AmenityRow) → HasTexts v → BreaksNone file.Amenity v → IsAmenityRow v row → FitsAmenity row
amenity_fits v row texts keeps is = record {
  id = id_there row.id (member v (codes "id")) is.id;
  address = id_or_none row.address (item.property v property.AddressId) is.address;
  units = ids_there row.units (item.property v property.UnitIds) is.units;
  one = subst (λ (ids : List FeatureId). 1 ≤ length ids) (sym is.units) (amenity_units v keeps);
  point = on_earth (coordinates (geometry v)) row.point is.point;
  category = subst IsUtf8 (sym is.category) (text_has (item.property v property.Category) (property_has v property.Category texts));
  name = name_there row.name (item.property v property.Name) is.name (property_has v property.Name texts);
}

-- ---- files

value_has : (slot : Slot) (v : Json) → IsContent slot (Some v) → HasTexts v
value_has Absent v is = absurd is
value_has (Held bytes) v is = texts_of bytes v is.1

items_have : (files : Files) (f : File) (c : Option Json) → HasContent files f c → AllByRecursion HasTexts (content_items c)
items_have files f None held = tt
items_have files f (Some v) held = listed_has (member v (codes "features")) (member_has v (codes "features") (value_has held.slot v held.is))

-- the item of this file has its texts, and breaks no rule
abbrev IsWell : File → Json → Type 0
IsWell f v = HasTexts v × BreaksNone f v

zip_well : {Row : Type 0} (f : File) (IsRow : Json → Row → Type 0) (vs : List Json) (rows : List Row) → AllByRecursion HasTexts vs → ((k : ℕ) (v : Json) → slice_get vs k ≡ Some v → BreaksNone f v)
    → AllZip IsRow vs rows → AllZip (λ v row. IsWell f v × IsRow v row) vs rows
zip_well f IsRow [] [] texts keep zip = tt
zip_well f IsRow [] (row ∷ rows) texts keep zip = absurd zip
zip_well f IsRow (v ∷ vs) [] texts keep zip = absurd zip
zip_well f IsRow (v ∷ vs) (row ∷ rows) texts keep zip = (((texts.0, keep 0 v refl), zip.0), zip_well f IsRow vs rows texts.1 (λ k w at. keep (suc k) w at) zip.1)

unmapped : {A B : Type 0} (P : B → Type 0) (g : A → B) (xs : List A) → All P (map g xs) → All (λ x. P (g x)) xs
unmapped P g [] all = All-nil (λ x. P (g x))
unmapped P g (x ∷ xs) all = All-cons (λ x. P (g x)) x xs (All-head P (g x) (map g xs) all) (unmapped P g xs (All-tail P (g x) (map g xs) all))

module _ (files : Files) (features : Features) (none : FindsNothing files) where
  pub item_keeps : (f : File) (c : Option Json) → f ≢ file.Manifest → HasContent files f c → (k : ℕ) (v : Json) → slice_get (content_items c) k ≡ Some v → BreaksNone f v
  item_keeps f c not_manifest held k v there r place b = none (finding_at r f k place) (record {
    rule = r;
    number = refl;
    breaks = inr (inr (record { source = f; features = not_manifest; content = c; held = held; item = v; there = there; breaks = b; in_file = refl }));
  })

  rows_fit : {Row : Type 0} (IsRow : Json → Row → Type 0) (Q : Row → Type 0) (f : File) (rows : List Row) → ((v : Json) (row : Row) → IsWell f v → IsRow v row → Q row) → f ≢ file.Manifest → AreRows IsRow files f rows → All Q rows
  rows_fit IsRow Q f rows step not_manifest are =
      zip_all (λ v row. IsWell f v × IsRow v row) Q (λ v row h. step v row h.0 h.1) (content_items are.content) rows
      (zip_well f IsRow (content_items are.content) rows (items_have files f are.content are.held) (item_keeps f are.content not_manifest are.held) are.each)

  pub features_fit : AreSound features → All IsInRange features.levels → All IsOneDoor features.openings → All IsPassageOrNone features.relationships → AreFeatures files features → FitsFeatures features
  features_fit sound ranges doors passages are =
      let fixtures = rows_fit IsFixtureRow (λ row. IsSoundShape row.shape → FitsFixture row) file.Fixture features.fixtures (λ v row well is. fixture_fits v row is) (λ e. cc) are.fixtures in
      let footprints = rows_fit IsFootprintRow (λ row. IsSoundShape row.shape → FitsFootprint row) file.Footprint features.footprints (λ v row well is. footprint_fits v row is) (λ e. cc) are.footprints in
      let levels = rows_fit IsLevelRow (λ row. IsSoundShape row.shape → IsInRange row → FitsLevel row) file.Level features.levels (λ v row well is. level_fits v row is) (λ e. cc) are.levels in
      let openings = rows_fit IsOpeningRow (λ row. IsOneDoor row → FitsOpening row) file.Opening features.openings (λ v row well is. opening_fits v row is) (λ e. cc) are.openings in
      let relationships = rows_fit IsRelationshipRow (λ row. IsPassageOrNone row → FitsRelationship row) file.Relationship features.relationships (λ v row well is. relationship_fits v row is) (λ e. cc) are.relationships in
      let units = rows_fit IsUnitRow (λ row. IsSoundShape row.shape → FitsUnit row) file.Unit features.units (λ v row well is. unit_fits v row well.0 is) (λ e. cc) are.units in
      let venues = rows_fit IsVenueRow (λ row. IsSoundShape row.shape → FitsVenue row) file.Venue features.venues (λ v row well is. venue_fits v row is) (λ e. cc) are.venues in
      let fixture_shapes = unmapped IsSoundShape (λ (row : FixtureRow). row.shape) features.fixtures (sound.shapes file.Fixture) in
      let footprint_shapes = unmapped IsSoundShape (λ (row : FootprintRow). row.shape) features.footprints (sound.shapes file.Footprint) in
      let level_shapes = unmapped IsSoundShape (λ (row : LevelRow). row.shape) features.levels (sound.shapes file.Level) in
      let unit_shapes = unmapped IsSoundShape (λ (row : UnitRow). row.shape) features.units (sound.shapes file.Unit) in
      let venue_shapes = unmapped IsSoundShape (λ (row : VenueRow). row.shape) features.venues (sound.shapes file.Venue) in
      record {
        addresses = rows_fit IsPlainRow FitsPlain file.Address features.addresses (λ v row well is. plain_fits v row is) (λ e. cc) are.addresses;
        amenities = rows_fit IsAmenityRow FitsAmenity file.Amenity features.amenities (λ v row well is. amenity_fits v row well.0 well.1 is) (λ e. cc) are.amenities;
        anchors = rows_fit IsAnchorRow FitsAnchor file.Anchor features.anchors (λ v row well is. anchor_fits v row is) (λ e. cc) are.anchors;
        buildings = rows_fit IsBuildingRow FitsBuilding file.Building features.buildings (λ v row well is. building_fits v row is) (λ e. cc) are.buildings;
        details = rows_fit IsDetailRow FitsDetail file.Detail features.details (λ v row well is. detail_fits v row is) (λ e. cc) are.details;
        fixtures = λ k d below. fixtures k d below (fixture_shapes k d below);
        footprints = λ k d below. footprints k d below (footprint_shapes k d below);
        geofences = rows_fit IsPlainRow FitsPlain file.Geofence features.geofences (λ v row well is. plain_fits v row is) (λ e. cc) are.geofences;
        kiosks = rows_fit IsKioskRow FitsKiosk file.Kiosk features.kiosks (λ v row well is. kiosk_fits v row is) (λ e. cc) are.kiosks;
        levels = λ k d below. levels k d below (level_shapes k d below) (ranges k d below);
        occupants = rows_fit IsOccupantRow FitsOccupant file.Occupant features.occupants (λ v row well is. occupant_fits v row well.0 is) (λ e. cc) are.occupants;
        openings = λ k d below. openings k d below (doors k d below);
        relationships = λ k d below. relationships k d below (passages k d below);
        sections = rows_fit IsPlainRow FitsPlain file.Section features.sections (λ v row well is. plain_fits v row is) (λ e. cc) are.sections;
        units = λ k d below. units k d below (unit_shapes k d below);
        venues = λ k d below. venues k d below (venue_shapes k d below);
        sound = sound;
      }
