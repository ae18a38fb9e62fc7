-- The feature of each row breaks no rule on items.
use Rattle.std.proofs.Common.{◌≡◌, ℕ, ◌+◌, ◌≤◌, List, [], ◌∷◌, length, map, Option, Some, None, Bool, true, false, ◌||◌, is_some, refl, sym, ap, ◌∙◌, subst, inl, inr, arith, codes}
use Rattle.std.specs.Prelude.{All, sum_by, ℤ}
use Rattle.std.proofs.lemmas.List.Elements.{All-nil}
use Rattle.std.proofs.lemmas.List.Sums.{sum_by-cons}
use Rattle.exact_json.specs.Json.{Json, null, text, member}
use Rattle.geo_shapes.specs.Laws.{HasOnePoint}
use Rattle.geo_shapes.specs.Position.{BreaksPositions}
use Rattle.venue_types.specs.declared.feature_id.FeatureId.{FeatureId}
use Rattle.venue_types.specs.declared.features.PlainRow.{PlainRow}
use Rattle.venue_types.specs.declared.features.AmenityRow.{AmenityRow}
use Rattle.venue_types.specs.declared.features.AnchorRow.{AnchorRow}
use Rattle.venue_types.specs.declared.features.BuildingRow.{BuildingRow}
use Rattle.venue_types.specs.declared.features.DetailRow.{DetailRow}
use Rattle.venue_types.specs.declared.features.FixtureRow.{FixtureRow}
use Rattle.venue_types.specs.declared.features.FootprintRow.{FootprintRow}
use Rattle.venue_types.specs.declared.features.KioskRow.{KioskRow}
use Rattle.venue_types.specs.declared.features.LevelRow.{LevelRow}
use Rattle.venue_types.specs.declared.features.OccupantRow.{OccupantRow}
use Rattle.venue_types.specs.declared.features.OpeningRow.{OpeningRow}
use Rattle.venue_types.specs.declared.features.RelationshipRow.{RelationshipRow}
use Rattle.venue_types.specs.declared.features.UnitRow.{UnitRow}
use Rattle.venue_types.specs.declared.features.VenueRow.{VenueRow}
use Rattle.venue_types.specs.declared.features.Features.{Features}
use Rattle.venue_types.specs.declared.features.Ref.{Ref}
use Rattle.venue_types.specs.declared.folder_file.File.{File}
use Rattle.venue_types.specs.declared.folder_file.File.TheVariants as file
use Rattle.venue_types.specs.declared.folder_file.Geometry.{Geometry}
use Rattle.venue_types.specs.declared.folder_file.Geometry.TheVariants as kind
use Rattle.venue_types.specs.declared.point.Point.{Point}
use Rattle.venue_types.specs.declared.point.Line.{Line}
use Rattle.venue_types.specs.declared.point.Part.{Part}
use Rattle.venue_types.specs.declared.point.Shape.{Shape}
use Rattle.venue_types.specs.FolderFiles.{type_name, geometry_of}
use Rattle.imdf_schema.specs.declared.table.PropertyRow.{PropertyRow}
use Rattle.imdf_schema.specs.Values.{is_word, is_id, listed}
use Rattle.imdf_schema.specs.Items as item
use Rattle.imdf_schema.specs.Items.{is_feature, geometry, unlisted_property, fits_geometry}
use Rattle.imdf_rows.specs.Fields.{IsOrdinal}
use Rattle.imdf_schema.specs.declared.rules.Rule.{Rule}
use Rattle.imdf_schema.specs.declared.rules.Rule.TheVariants.{C2, C3, C4, C5, C6, L1, Q1, S3, S4, G1, G2}
use Rattle.imdf_read.specs.Counts.{places_of, longest_ring, one_unless_null, elements}
use Rattle.imdf_read.specs.Broken.{IsMisformed, BreaksForm, ItemBreaks}
use Rattle.imdf_read.specs.Sound.{IsOnEarth, element_count}
use Rattle.imdf_write.specs.Values.{list_value, or_null, id_value, point_value, line_value, shape_value, parts_value, direction_word, reference_value}
use Rattle.imdf_write.specs.Rows.{plain_feature, amenity_feature, anchor_feature, building_feature, detail_feature, fixture_feature, footprint_feature, kiosk_feature, level_feature, occupant_feature, opening_feature, relationship_feature, unit_feature, venue_feature}
use Rattle.imdf_write.specs.Folder.{features_of}
use Rattle.writing_law.specs.Written.{FitsFeatures}
use Rattle.writing_law.specs.Fit.{FitsId, FitsLine, FitsShape, FitsPlain, FitsAmenity, FitsAnchor, FitsBuilding, FitsDetail, FitsFixture, FitsFootprint, FitsKiosk, FitsLevel, FitsOccupant, FitsOpening, FitsRelationship, FitsUnit, FitsVenue}
use Rattle.writing_law.proofs.Files.{all_features}
use Rattle.writing_law.proofs.Lists.{listed_back}
use Rattle.writing_law.proofs.Ids.{id_back}
use Rattle.writing_law.proofs.Figures.{point_back, line_back, shape_back}
use Rattle.writing_law.proofs.Ordinals.{ordinal_back}
use Rattle.writing_law.proofs.NoBreaks.{no_bad_point, no_bad_line_positions, no_bad_line, no_bad_shape, no_bad_shape_positions, shape_few}
use Rattle.writing_law.proofs.Formed.{IsFormed, id_formed, id_or_null_formed, ids_formed, ids_or_null_formed, ref_formed, refs_formed, text_formed, text_or_null_formed, word_list_formed, door_formed, display_formed, name_formed}
use Rattle.writing_law.proofs.Table.{OfFile, of_table}

-- the property of an item is of its form
abbrev IsRight : Json → PropertyRow → Type 0
IsRight v p = IsFormed p.form (item.property v p.property)

-- what is asked of a geometry of this kind
record IsDrawn (k : Geometry) (v : Json) : Type 0 where
  fits : fits_geometry k v ≡ true
  few : longest_ring k v ≤ 20000
  positions : ¬ BreaksPositions (places_of k v)
  form : ¬ BreaksForm k v

-- what is asked of an item of this file
record IsRightItem (f : File) (v : Json) : Type 0 where
  feature : is_feature v ≡ true
  id : is_id (member v (codes "id")) ≡ true
  type : is_word (member v (codes "feature_type")) (type_name f) ≡ true
  drawn : IsDrawn (geometry_of f) (geometry v)
  properties : OfFile (IsRight v) f
  ordinal : f ≡ file.Level → (n : ℤ) × IsOrdinal (unlisted_property v (codes "ordinal")) n
  direction : f ≡ file.Relationship → (is_word (unlisted_property v (codes "direction")) (codes "directed") || is_word (unlisted_property v (codes "direction")) (codes "undirected")) ≡ true
  elements : f ≡ file.Relationship → elements v ≤ 65

not_both : (b : Bool) → b ≡ true → b ≡ false → ⊥
not_both b p q = cc

right_form : (p : PropertyRow) (v : Json) (place : ℕ) → IsFormed p.form v → ¬ IsMisformed p v place
right_form p v place is broken = elim broken [ inl bad ↦ bad.0 is.fits | inr bad ↦ not_both _ (is.items bad.0 bad.1 bad.2) bad.3 ]

-- the item of this file breaks no rule
abbrev pub BreaksNone : File → Json → Type 0
BreaksNone f v = (r : Rule) (place : ℕ) → ¬ ItemBreaks r f v place

keeps : (f : File) (v : Json) → IsRightItem f v → BreaksNone f v
keeps f v is C2 place b = not_both (is_feature v) is.feature b.0
keeps f v is C3 place b = not_both _ is.id b.1
keeps f v is C4 place b = not_both _ is.type b.1
keeps f v is C5 place b = not_both _ is.drawn.fits b.1
keeps f v is C6 place b =
    let p = b.1.0 in
    let all : OfFile (IsRight v) p.file = subst (OfFile (IsRight v)) (sym b.1.2) is.properties in
    right_form p (item.property v p.property) place (of_table (IsRight v) p b.1.1 all) b.1.3
keeps f v is L1 place b = let n = is.ordinal b.0 in b.2 n.0 n.1
keeps f v is Q1 place b = not_both _ (is.direction b.0) b.2
keeps f v is S3 place b = let few = is.drawn.few in omega (arith, b.1)
keeps f v is S4 place b = let few = is.elements b.0 in omega (arith, b.2)
keeps f v is G1 place b = is.drawn.positions b.1
keeps f v is G2 place b = is.drawn.form b.1
keeps f v is _ place b = b

-- ---- geometries

nothing_bad : ¬ BreaksPositions []
nothing_bad (k, x, below, is, none) = omega (arith, below)

null_drawn : IsDrawn kind.Null null
null_drawn = record { fits = refl; few = omega arith; positions = nothing_bad; form = λ h. h }

unjudged_drawn : (v : Json) → IsDrawn kind.Unjudged v
unjudged_drawn v = record { fits = refl; few = omega arith; positions = nothing_bad; form = λ h. h }

point_drawn : (p : Point) → IsOnEarth p → IsDrawn kind.Point (point_value p)
point_drawn p earth = record { fits = refl; few = omega arith; positions = no_bad_point (point_value p) p (point_back p earth); form = λ h. h }

line_drawn : (line : Line) → FitsLine line → IsDrawn kind.Line (line_value line)
line_drawn line fits =
    let has = line_back line fits in
    record { fits = refl; few = omega arith; positions = no_bad_line_positions (line_value line) line has; form = no_bad_line (line_value line) line has }

parts_fit : (parts : List Part) → fits_geometry kind.Shape (parts_value parts) ≡ true
parts_fit [] = refl
parts_fit (part ∷ []) = refl
parts_fit (part ∷ next ∷ parts) = refl

shape_drawn : HasOnePoint → (shape : Shape) → FitsShape shape → IsDrawn kind.Shape (shape_value shape)
shape_drawn one shape fits =
    let has = shape_back shape fits in
    record {
      fits = parts_fit shape.parts;
      few = shape_few (shape_value shape) shape has fits.sound.rings;
      positions = no_bad_shape_positions (shape_value shape) shape has;
      form = no_bad_shape one (shape_value shape) shape has;
    }

-- ---- rows

id_right : (id : FeatureId) → FitsId id → is_id (id_value id) ≡ true
id_right id fits = ap (λ (o : Option FeatureId). is_some o) (id_back id fits)

address_right : (row : PlainRow) → FitsPlain row → IsRightItem file.Address (plain_feature file.Address row)
address_right row fits = record {
  feature = refl;
  id = id_right row.id fits.id;
  type = refl;
  drawn = null_drawn;
  properties = tt;
  ordinal = λ e. absurd (cc);
  direction = λ e. absurd (cc);
  elements = λ e. absurd (cc);
}

geofence_right : (row : PlainRow) → FitsPlain row → IsRightItem file.Geofence (plain_feature file.Geofence row)
geofence_right row fits = record {
  feature = refl;
  id = id_right row.id fits.id;
  type = refl;
  drawn = unjudged_drawn null;
  properties = tt;
  ordinal = λ e. absurd (cc);
  direction = λ e. absurd (cc);
  elements = λ e. absurd (cc);
}

section_right : (row : PlainRow) → FitsPlain row → IsRightItem file.Section (plain_feature file.Section row)
section_right row fits = record {
  feature = refl;
  id = id_right row.id fits.id;
  type = refl;
  drawn = unjudged_drawn null;
  properties = tt;
  ordinal = λ e. absurd (cc);
  direction = λ e. absurd (cc);
  elements = λ e. absurd (cc);
}

amenity_right : (row : AmenityRow) → FitsAmenity row → IsRightItem file.Amenity (amenity_feature file.Amenity row)
amenity_right row fits = record {
  feature = refl;
  id = id_right row.id fits.id;
  type = refl;
  drawn = point_drawn row.point fits.point;
  properties = (id_or_null_formed row.address fits.address, ids_formed row.units fits.one fits.units, text_formed row.category, name_formed row.name);
  ordinal = λ e. absurd (cc);
  direction = λ e. absurd (cc);
  elements = λ e. absurd (cc);
}

anchor_right : (row : AnchorRow) → FitsAnchor row → IsRightItem file.Anchor (anchor_feature file.Anchor row)
anchor_right row fits = record {
  feature = refl;
  id = id_right row.id fits.id;
  type = refl;
  drawn = point_drawn row.point fits.point;
  properties = (id_or_null_formed row.address fits.address, id_formed row.unit fits.unit);
  ordinal = λ e. absurd (cc);
  direction = λ e. absurd (cc);
  elements = λ e. absurd (cc);
}

building_right : (row : BuildingRow) → FitsBuilding row → IsRightItem file.Building (building_feature file.Building row)
building_right row fits = record {
  feature = refl;
  id = id_right row.id fits.id;
  type = refl;
  drawn = null_drawn;
  properties = id_or_null_formed row.address fits.address;
  ordinal = λ e. absurd (cc);
  direction = λ e. absurd (cc);
  elements = λ e. absurd (cc);
}

detail_right : (row : DetailRow) → FitsDetail row → IsRightItem file.Detail (detail_feature file.Detail row)
detail_right row fits = record {
  feature = refl;
  id = id_right row.id fits.id;
  type = refl;
  drawn = unjudged_drawn null;
  properties = id_or_null_formed row.level fits.level;
  ordinal = λ e. absurd (cc);
  direction = λ e. absurd (cc);
  elements = λ e. absurd (cc);
}

fixture_right : HasOnePoint → (row : FixtureRow) → FitsFixture row → IsRightItem file.Fixture (fixture_feature file.Fixture row)
fixture_right one row fits = record {
  feature = refl;
  id = id_right row.id fits.id;
  type = refl;
  drawn = shape_drawn one row.shape fits.shape;
  properties = (id_or_null_formed row.level fits.level, id_or_null_formed row.anchor fits.anchor);
  ordinal = λ e. absurd (cc);
  direction = λ e. absurd (cc);
  elements = λ e. absurd (cc);
}

footprint_right : HasOnePoint → (row : FootprintRow) → FitsFootprint row → IsRightItem file.Footprint (footprint_feature file.Footprint row)
footprint_right one row fits = record {
  feature = refl;
  id = id_right row.id fits.id;
  type = refl;
  drawn = shape_drawn one row.shape fits.shape;
  properties = ids_or_null_formed row.buildings fits.buildings;
  ordinal = λ e. absurd (cc);
  direction = λ e. absurd (cc);
  elements = λ e. absurd (cc);
}

kiosk_right : (row : KioskRow) → FitsKiosk row → IsRightItem file.Kiosk (kiosk_feature file.Kiosk row)
kiosk_right row fits = record {
  feature = refl;
  id = id_right row.id fits.id;
  type = refl;
  drawn = unjudged_drawn null;
  properties = (id_or_null_formed row.level fits.level, id_or_null_formed row.anchor fits.anchor);
  ordinal = λ e. absurd (cc);
  direction = λ e. absurd (cc);
  elements = λ e. absurd (cc);
}

level_right : HasOnePoint → (row : LevelRow) → FitsLevel row → IsRightItem file.Level (level_feature file.Level row)
level_right one row fits = record {
  feature = refl;
  id = id_right row.id fits.id;
  type = refl;
  drawn = shape_drawn one row.shape fits.shape;
  properties = (id_or_null_formed row.address fits.address, ids_or_null_formed row.buildings fits.buildings);
  ordinal = λ e. (row.ordinal, ordinal_back row.ordinal fits.ordinal.0 fits.ordinal.1);
  direction = λ e. absurd (cc);
  elements = λ e. absurd (cc);
}

occupant_right : (row : OccupantRow) → FitsOccupant row → IsRightItem file.Occupant (occupant_feature file.Occupant row)
occupant_right row fits = record {
  feature = refl;
  id = id_right row.id fits.id;
  type = refl;
  drawn = null_drawn;
  properties = (id_formed row.anchor fits.anchor, name_formed row.name);
  ordinal = λ e. absurd (cc);
  direction = λ e. absurd (cc);
  elements = λ e. absurd (cc);
}

opening_right : (row : OpeningRow) → FitsOpening row → IsRightItem file.Opening (opening_feature file.Opening row)
opening_right row fits = record {
  feature = refl;
  id = id_right row.id fits.id;
  type = refl;
  drawn = line_drawn row.line fits.line;
  properties = (id_formed row.level fits.level, word_list_formed row.marked (codes "wheelchair"), word_list_formed row.out (codes "outofservice"), door_formed row.revolving row.turnstile);
  ordinal = λ e. absurd (cc);
  direction = λ e. absurd (cc);
  elements = λ e. absurd (cc);
}

direction_right : (directed : Bool) → (is_word (text (direction_word directed)) (codes "directed") || is_word (text (direction_word directed)) (codes "undirected")) ≡ true
direction_right true = refl
direction_right false = refl

abbrev count : Option Ref → ℕ
count None = 0
count (Some r) = 1

-- the row with these ends
abbrev with_ends : RelationshipRow → Option Ref → Option Ref → RelationshipRow
with_ends row origin destination = record { id = row.id; kind = row.kind; directed = row.directed; origin = origin; between = row.between; destination = destination }

counted : (row : RelationshipRow) (origin destination : Option Ref) → element_count (with_ends row origin destination) ≡ count origin + length row.between + count destination
counted row None None = refl
counted row None (Some d) = refl
counted row (Some o) None = refl
counted row (Some o) (Some d) = refl

one_written : (o : Option Ref) → one_unless_null (or_null reference_value o) ≡ count o
one_written None = refl
one_written (Some r) = refl

several_written : (rs : List Ref) → sum_by one_unless_null (map reference_value rs) ≡ length rs
several_written [] = refl
several_written (r ∷ rs) =
    let sum : sum_by one_unless_null (map reference_value (r ∷ rs)) ≡ 1 + sum_by one_unless_null (map reference_value rs) = sum_by-cons one_unless_null (reference_value r) (map reference_value rs) in
    let rest = several_written rs in
    omega arith

-- the elements of a relationship that is written are those of its row
elements_written : (row : RelationshipRow) → elements (relationship_feature file.Relationship row) ≡ element_count row
elements_written row =
    let all : element_count row ≡ count row.origin + length row.between + count row.destination = counted row row.origin row.destination in
    let first = one_written row.origin in
    let last = one_written row.destination in
    let between : sum_by one_unless_null (listed (list_value reference_value row.between)) ≡ length row.between =
    ap (sum_by one_unless_null) (listed_back reference_value row.between) ∙ several_written row.between in
    let whole : elements (relationship_feature file.Relationship row)
    ≡ one_unless_null (or_null reference_value row.origin) + sum_by one_unless_null (listed (list_value reference_value row.between)) + one_unless_null (or_null reference_value row.destination) = refl in
    omega arith

relationship_right : (row : RelationshipRow) → FitsRelationship row → element_count row ≤ 65 → IsRightItem file.Relationship (relationship_feature file.Relationship row)
relationship_right row fits few = record {
  feature = refl;
  id = id_right row.id fits.id;
  type = refl;
  drawn = unjudged_drawn null;
  properties = (ref_formed row.origin fits.origin, refs_formed row.between fits.between, ref_formed row.destination fits.destination, text_formed _);
  ordinal = λ e. absurd (cc);
  direction = λ e. direction_right row.directed;
  elements = λ e. subst (λ n. n ≤ 65) (sym (elements_written row)) few;
}

unit_right : HasOnePoint → (row : UnitRow) → FitsUnit row → IsRightItem file.Unit (unit_feature file.Unit row)
unit_right one row fits = record {
  feature = refl;
  id = id_right row.id fits.id;
  type = refl;
  drawn = shape_drawn one row.shape fits.shape;
  properties = (id_formed row.level fits.level, text_formed row.category, text_or_null_formed row.restricted (codes "restricted"), display_formed row.display fits.display, name_formed row.name);
  ordinal = λ e. absurd (cc);
  direction = λ e. absurd (cc);
  elements = λ e. absurd (cc);
}

venue_right : HasOnePoint → (row : VenueRow) → FitsVenue row → IsRightItem file.Venue (venue_feature file.Venue row)
venue_right one row fits = record {
  feature = refl;
  id = id_right row.id fits.id;
  type = refl;
  drawn = shape_drawn one row.shape fits.shape;
  properties = id_or_null_formed row.address fits.address;
  ordinal = λ e. absurd (cc);
  direction = λ e. absurd (cc);
  elements = λ e. absurd (cc);
}

-- ---- features

-- a relationship of few elements
abbrev FitsFew : RelationshipRow → Type 0
FitsFew row = FitsRelationship row × (element_count row ≤ 65)

-- the features of this file break no rule on items
pub features_keep : HasOnePoint → (features : Features) (f : File) → FitsFeatures features → All (BreaksNone f) (features_of f features)
features_keep one features file.Manifest fits = All-nil (BreaksNone file.Manifest)
features_keep one features file.Address fits = all_features FitsPlain (BreaksNone file.Address) (plain_feature file.Address) (λ row h. keeps file.Address _ (address_right row h)) features.addresses fits.addresses
features_keep one features file.Amenity fits = all_features FitsAmenity (BreaksNone file.Amenity) (amenity_feature file.Amenity) (λ row h. keeps file.Amenity _ (amenity_right row h)) features.amenities fits.amenities
features_keep one features file.Anchor fits = all_features FitsAnchor (BreaksNone file.Anchor) (anchor_feature file.Anchor) (λ row h. keeps file.Anchor _ (anchor_right row h)) features.anchors fits.anchors
features_keep one features file.Building fits = all_features FitsBuilding (BreaksNone file.Building) (building_feature file.Building) (λ row h. keeps file.Building _ (building_right row h)) features.buildings fits.buildings
features_keep one features file.Detail fits = all_features FitsDetail (BreaksNone file.Detail) (detail_feature file.Detail) (λ row h. keeps file.Detail _ (detail_right row h)) features.details fits.details
features_keep one features file.Fixture fits = all_features FitsFixture (BreaksNone file.Fixture) (fixture_feature file.Fixture) (λ row h. keeps file.Fixture _ (fixture_right one row h)) features.fixtures fits.fixtures
features_keep one features file.Footprint fits = all_features FitsFootprint (BreaksNone file.Footprint) (footprint_feature file.Footprint) (λ row h. keeps file.Footprint _ (footprint_right one row h)) features.footprints fits.footprints
features_keep one features file.Geofence fits = all_features FitsPlain (BreaksNone file.Geofence) (plain_feature file.Geofence) (λ row h. keeps file.Geofence _ (geofence_right row h)) features.geofences fits.geofences
features_keep one features file.Kiosk fits = all_features FitsKiosk (BreaksNone file.Kiosk) (kiosk_feature file.Kiosk) (λ row h. keeps file.Kiosk _ (kiosk_right row h)) features.kiosks fits.kiosks
features_keep one features file.Level fits = all_features FitsLevel (BreaksNone file.Level) (level_feature file.Level) (λ row h. keeps file.Level _ (level_right one row h)) features.levels fits.levels
features_keep one features file.Occupant fits = all_features FitsOccupant (BreaksNone file.Occupant) (occupant_feature file.Occupant) (λ row h. keeps file.Occupant _ (occupant_right row h)) features.occupants fits.occupants
features_keep one features file.Opening fits = all_features FitsOpening (BreaksNone file.Opening) (opening_feature file.Opening) (λ row h. keeps file.Opening _ (opening_right row h)) features.openings fits.openings
features_keep one features file.Relationship fits = all_features FitsFew (BreaksNone file.Relationship) (relationship_feature file.Relationship)
    (λ row h. keeps file.Relationship _ (relationship_right row h.0 h.1)) features.relationships (λ k d below. (fits.relationships k d below, fits.sound.few_elements k d below))
features_keep one features file.Section fits = all_features FitsPlain (BreaksNone file.Section) (plain_feature file.Section) (λ row h. keeps file.Section _ (section_right row h)) features.sections fits.sections
features_keep one features file.Unit fits = all_features FitsUnit (BreaksNone file.Unit) (unit_feature file.Unit) (λ row h. keeps file.Unit _ (unit_right one row h)) features.units fits.units
features_keep one features file.Venue fits = all_features FitsVenue (BreaksNone file.Venue) (venue_feature file.Venue) (λ row h. keeps file.Venue _ (venue_right one row h)) features.venues fits.venues
