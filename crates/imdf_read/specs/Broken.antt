-- The rules of the first phase: where each is broken. Each rule stands in one of three tables: those on the folder, those on a file, and those on an item.
use Rattle.std.specs.Prelude.{◌≡◌, ◌≢◌, ℕ, ℤ, ◌+◌, ◌*◌, ◌<◌, ◌⊎◌, List, Option, Some, true, false, ◌||◌, length, slice_get, Contains, sum_by, codes}
use Rattle.exact_json.specs.Json.{Json, member}
use Rattle.geo_shapes.specs.Position.{BreaksPositions}
use Rattle.geo_shapes.specs.Geometry.{BreaksLineForm, BreaksShapeForm}
use Rattle.venue_types.specs.declared.files.Files.{Files}
use Rattle.venue_types.specs.declared.files.Slot.{Slot}
use Rattle.venue_types.specs.declared.files.Slot.TheVariants.{Absent}
use Rattle.venue_types.specs.declared.finding.Finding.{Finding}
use Rattle.venue_types.specs.declared.folder_file.File.{File}
use Rattle.venue_types.specs.declared.folder_file.File.TheVariants as file
use Rattle.venue_types.specs.declared.folder_file.Geometry.{Geometry}
use Rattle.venue_types.specs.declared.folder_file.Geometry.TheVariants as kind
use Rattle.imdf_schema.specs.declared.table.PropertyRow.{PropertyRow}
use Rattle.venue_types.specs.FolderFiles.{file_number, type_name, geometry_of, feature_files}
use Rattle.imdf_schema.specs.Values.{is_null, is_object, is_text, is_word, is_id}
use Rattle.imdf_schema.specs.Properties.{properties, property_number}
use Rattle.imdf_schema.specs.Forms.{Fits, items_of, item_fits}
use Rattle.imdf_schema.specs.Items.{is_collection, is_feature, items_in, geometry, property, unlisted_property, fits_geometry}
use Rattle.imdf_schema.specs.Contents.{IsLarge, IsNoText, IsDeep, HasValue, IsSlotOf, HasContent, content_items}
use Rattle.imdf_rows.specs.Fields.{IsOrdinal}
use Rattle.imdf_schema.specs.declared.rules.Rule.{Rule}
use Rattle.imdf_schema.specs.declared.rules.Rule.TheVariants.{F1, F2, F3, F4, M1, M2, M3, C1, C2, C3, C4, C5, C6, V1, L1, Q1, S1, S2, S3, S4, G1, G2}
use Rattle.imdf_schema.specs.Rules.{rule_number}
use Rattle.imdf_read.specs.Counts.{places_of, is_judged, collected, total_positions, AreContents, longest_ring, elements}

-- a property of an item isn't of its form; or an item of its list isn't, whose place goes into the finding
abbrev pub IsMisformed : PropertyRow → Json → ℕ → Type 0
IsMisformed p v place =
    ((¬ Fits p.form v) × (place ≡ property_number p.property))
    ⊎ ((k : ℕ) × (item : Json) × (slice_get (items_of p.form v) k ≡ Some item) × (item_fits p.form item ≡ false) × (place ≡ property_number p.property + 64 * k))

-- the form of a geometry of this kind is broken
abbrev pub BreaksForm : Geometry → Json → Type 0
BreaksForm kind.Null v = ⊥
BreaksForm kind.Point v = ⊥
BreaksForm kind.Line v = BreaksLineForm v
BreaksForm kind.Shape v = BreaksShapeForm v
BreaksForm kind.Unjudged v = ⊥

-- the rules on the folder
abbrev pub FolderBreaks : Rule → Files → Type 0
-- all collections have more than 100,000 items together
FolderBreaks S1 files = (contents : List (Option Json)) × AreContents files contents × (100000 < sum_by collected contents)
-- all judged geometries have more than 1,000,000 positions together
FolderBreaks S2 files = (contents : List (Option Json)) × AreContents files contents × (1000000 < total_positions feature_files contents)
FolderBreaks _ files = ⊥

-- the rules on a file
abbrev pub FileBreaks : Rule → File → Slot → Type 0
-- the manifest is absent
FileBreaks F1 f slot = (f ≡ file.Manifest) × (slot ≡ Absent)
-- the file has more than 33,554,432 bytes
FileBreaks F2 f slot = IsLarge slot
-- it hasn't, and is no JSON text
FileBreaks F3 f slot = IsNoText slot
-- it hasn't, and is a JSON text that nests past 64
FileBreaks F4 f slot = IsDeep slot
-- the manifest isn't an object whose `version` is "1.0.0"
FileBreaks M1 f slot = (f ≡ file.Manifest) × ((v : Json) × HasValue slot v × (is_word (member v (codes "version")) (codes "1.0.0") ≡ false))
-- the manifest is an object whose `created` isn't a text
FileBreaks M2 f slot = (f ≡ file.Manifest) × ((v : Json) × HasValue slot v × (is_object v ≡ true) × (is_text (member v (codes "created")) ≡ false))
-- the manifest is an object whose `language` is neither null nor a text
FileBreaks M3 f slot = (f ≡ file.Manifest) × ((v : Json) × HasValue slot v × (is_object v ≡ true) × ((is_null (member v (codes "language")) || is_text (member v (codes "language"))) ≡ false))
-- a feature file isn't an object of the type "FeatureCollection" with a list of features
FileBreaks C1 f slot = (f ≢ file.Manifest) × ((v : Json) × HasValue slot v × (is_collection v ≡ false))
-- the venue file is absent, or is a collection that hasn't exactly one item
FileBreaks V1 f slot = (f ≡ file.Venue) × ((slot ≡ Absent) ⊎ ((v : Json) × HasValue slot v × (is_collection v ≡ true) × (length (items_in v) ≢ 1)))
FileBreaks _ f slot = ⊥

-- the rules on an item of a feature file, and the number of the member
abbrev pub ItemBreaks : Rule → File → Json → ℕ → Type 0
-- it isn't an object of the type "Feature" with an object `properties`
ItemBreaks C2 f item place = (is_feature item ≡ false) × (place ≡ 0)
-- its `id` isn't an identifier
ItemBreaks C3 f item place = (is_feature item ≡ true) × (is_id (member item (codes "id")) ≡ false) × (place ≡ 0)
-- its `feature_type` isn't the type of its file
ItemBreaks C4 f item place = (is_feature item ≡ true) × (is_word (member item (codes "feature_type")) (type_name f) ≡ false) × (place ≡ 0)
-- its geometry isn't null where that is asked, or isn't of the types that are asked
ItemBreaks C5 f item place = (is_feature item ≡ true) × (fits_geometry (geometry_of f) (geometry item) ≡ false) × (place ≡ 0)
-- a property isn't of its form; an item of a list isn't
ItemBreaks C6 f item place = (is_feature item ≡ true) × ((p : PropertyRow) × Contains properties p × (p.file ≡ f) × IsMisformed p (property item p.property) place)
-- a level's `ordinal` isn't a number that, rounded to billionths, is a whole one from -180 to 180
ItemBreaks L1 f item place = (f ≡ file.Level) × (is_feature item ≡ true) × ((n : ℤ) → ¬ IsOrdinal (unlisted_property item (codes "ordinal")) n) × (place ≡ 0)
-- a relationship's `direction` is neither "directed" nor "undirected"
ItemBreaks Q1 f item place = (f ≡ file.Relationship) × (is_feature item ≡ true) × ((is_word (unlisted_property item (codes "direction")) (codes "directed") || is_word (unlisted_property item (codes "direction")) (codes "undirected")) ≡ false) × (place ≡ 0)
-- a ring has more than 20,000 positions
ItemBreaks S3 f item place = (is_judged f item ≡ true) × (20000 < longest_ring (geometry_of f) (geometry item)) × (place ≡ 0)
-- origin, intermediaries and destination that aren't null are more than 65
ItemBreaks S4 f item place = (f ≡ file.Relationship) × (is_feature item ≡ true) × (65 < elements item) × (place ≡ 0)
-- what stands in the place of a position in a judged geometry is none
ItemBreaks G1 f item place = (is_judged f item ≡ true) × BreaksPositions (places_of (geometry_of f) (geometry item)) × (place ≡ 0)
-- the form of a judged geometry is broken
ItemBreaks G2 f item place = (is_judged f item ≡ true) × BreaksForm (geometry_of f) (geometry item) × (place ≡ 0)
ItemBreaks _ f item place = ⊥

-- a place in a file
pub record IsAt (f : File) (k place : ℕ) (x : Finding) : Type 0 where
  pub in_file : x.file ≡ file_number f
  pub at_index : x.index ≡ k
  pub at_member : x.member ≡ place

-- a rule on the folder is broken, which is told of the manifest
abbrev pub BreaksInFolder : Files → Rule → Finding → Type 0
BreaksInFolder files r x = FolderBreaks r files × IsAt file.Manifest 0 0 x

-- a rule on a file is broken
pub record BreaksInFile (files : Files) (r : Rule) (x : Finding) : Type 0 where
  pub source : File
  pub slot : Slot
  pub held : IsSlotOf files source slot
  pub breaks : FileBreaks r source slot
  pub at : IsAt source 0 0 x

-- a rule on an item of a feature file is broken
pub record BreaksInItem (files : Files) (r : Rule) (x : Finding) : Type 0 where
  pub source : File
  pub features : source ≢ file.Manifest
  pub content : Option Json
  pub held : HasContent files source content
  pub item : Json
  pub there : slice_get (content_items content) x.index ≡ Some item
  pub breaks : ItemBreaks r source item x.member
  pub in_file : x.file ≡ file_number source

-- a rule of the first phase is broken there
pub record IsBroken (files : Files) (x : Finding) : Type 0 where
  pub rule : Rule
  pub number : x.rule ≡ rule_number rule
  pub breaks : BreaksInFolder files rule x ⊎ (BreaksInFile files rule x ⊎ BreaksInItem files rule x)
