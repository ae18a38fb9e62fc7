-- The files of a folder: their numbers, their feature types, and the geometry of their features (IMDF 1.0.0, section "Archive").
use Rattle.std.specs.Prelude.{ℕ, List, [], ◌∷◌, ◌++◌, Option, Some, None, if◌then◌else◌, codes}
use Rattle.std.specs.Str.{bytes_eq}
use Rattle.venue_types.specs.declared.folder_file.File.{File}
use Rattle.venue_types.specs.declared.folder_file.File.TheVariants as file
use Rattle.venue_types.specs.declared.folder_file.Geometry.{Geometry}
use Rattle.venue_types.specs.declared.folder_file.Geometry.TheVariants as geometry

-- the number of a file
abbrev pub file_number : File → ℕ
file_number file.Manifest = 0
file_number file.Address = 1
file_number file.Amenity = 2
file_number file.Anchor = 3
file_number file.Building = 4
file_number file.Detail = 5
file_number file.Fixture = 6
file_number file.Footprint = 7
file_number file.Geofence = 8
file_number file.Kiosk = 9
file_number file.Level = 10
file_number file.Occupant = 11
file_number file.Opening = 12
file_number file.Relationship = 13
file_number file.Section = 14
file_number file.Unit = 15
file_number file.Venue = 16

-- its name without the extension, which is the type of its features
abbrev pub type_name : File → List ℕ
type_name file.Manifest = codes "manifest"
type_name file.Address = codes "address"
type_name file.Amenity = codes "amenity"
type_name file.Anchor = codes "anchor"
type_name file.Building = codes "building"
type_name file.Detail = codes "detail"
type_name file.Fixture = codes "fixture"
type_name file.Footprint = codes "footprint"
type_name file.Geofence = codes "geofence"
type_name file.Kiosk = codes "kiosk"
type_name file.Level = codes "level"
type_name file.Occupant = codes "occupant"
type_name file.Opening = codes "opening"
type_name file.Relationship = codes "relationship"
type_name file.Section = codes "section"
type_name file.Unit = codes "unit"
type_name file.Venue = codes "venue"

-- its name: `manifest.json`, or the type of its features with the extension `.geojson` (IMDF 1.0.0, section "Archive")
abbrev pub file_name : File → List ℕ
file_name file.Manifest = codes "manifest.json"
file_name f = type_name f ++ codes ".geojson"

-- the files of features, in the order of their numbers
abbrev pub feature_files : List File
feature_files =
    file.Address ∷ file.Amenity ∷ file.Anchor ∷ file.Building ∷ file.Detail ∷ file.Fixture ∷ file.Footprint ∷ file.Geofence ∷ file.Kiosk
    ∷ file.Level ∷ file.Occupant ∷ file.Opening ∷ file.Relationship ∷ file.Section ∷ file.Unit ∷ file.Venue ∷ []

-- all files, in the order of their numbers
abbrev pub all_files : List File
all_files = file.Manifest ∷ feature_files

-- the first of the files whose type has this name
abbrev pub file_among : List File → List ℕ → Option File
file_among [] name = None
file_among (f ∷ fs) name = if bytes_eq (type_name f) name then Some f else file_among fs name

-- the file of the feature type of this name
unfoldable pub file_of_type : List ℕ → Option File
file_of_type name = file_among feature_files name

-- the geometry of a file's features
abbrev pub geometry_of : File → Geometry
geometry_of file.Manifest = geometry.Unjudged
geometry_of file.Address = geometry.Null
geometry_of file.Amenity = geometry.Point
geometry_of file.Anchor = geometry.Point
geometry_of file.Building = geometry.Null
geometry_of file.Detail = geometry.Unjudged
geometry_of file.Fixture = geometry.Shape
geometry_of file.Footprint = geometry.Shape
geometry_of file.Geofence = geometry.Unjudged
geometry_of file.Kiosk = geometry.Unjudged
geometry_of file.Level = geometry.Shape
geometry_of file.Occupant = geometry.Null
geometry_of file.Opening = geometry.Line
geometry_of file.Relationship = geometry.Unjudged
geometry_of file.Section = geometry.Unjudged
geometry_of file.Unit = geometry.Shape
geometry_of file.Venue = geometry.Shape
