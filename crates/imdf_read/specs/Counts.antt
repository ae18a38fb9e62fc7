-- What is counted: the items of a folder, the positions of its judged geometries, and the elements of a relationship.
use Rattle.std.specs.Prelude.{ℕ, ◌+◌, List, [], ◌∷◌, length, drop, Option, Some, None, Bool, ◌&&◌, sum_by, if◌then◌else◌}
use Rattle.std.specs.List.{AllZip}
use Rattle.exact_json.specs.Json.{Json}
use Rattle.geo_shapes.specs.Geometry.{point_places, line_places, shape_places, ring_places, longest_of}
use Rattle.venue_types.specs.declared.files.Files.{Files}
use Rattle.venue_types.specs.declared.folder_file.File.{File}
use Rattle.venue_types.specs.declared.folder_file.Geometry.{Geometry}
use Rattle.venue_types.specs.declared.folder_file.Geometry.TheVariants as kind
use Rattle.imdf_schema.specs.declared.table.Property.TheVariants as property
use Rattle.venue_types.specs.FolderFiles.{geometry_of}
use Rattle.imdf_schema.specs.Values.{is_null, listed}
use Rattle.imdf_schema.specs.Items.{is_collection, is_feature, items_in, geometry, fits_geometry}
use Rattle.imdf_schema.specs.Items as item
use Rattle.imdf_schema.specs.Contents.{IsContent, content_items}

-- what stands in the place of a position in a geometry of this kind
abbrev pub places_of : Geometry → Json → List Json
places_of kind.Null v = []
places_of kind.Point v = point_places v
places_of kind.Line v = line_places v
places_of kind.Shape v = shape_places v
places_of kind.Unjudged v = []

-- the geometry of an item is judged: the item is a feature, and its geometry is of the type that its file asks for
abbrev pub is_judged : File → Json → Bool
is_judged f v = is_feature v && fits_geometry (geometry_of f) (geometry v)

-- the positions of an item, where its geometry is judged
abbrev pub item_positions : File → Json → ℕ
item_positions f v = if is_judged f v then length (places_of (geometry_of f) (geometry v)) else 0

-- the items of a file that is a collection
abbrev pub collected : Option Json → ℕ
collected None = 0
collected (Some v) = if is_collection v then length (items_in v) else 0

-- the positions of a file's items
abbrev pub file_positions : File → Option Json → ℕ
file_positions f content = sum_by (item_positions f) (content_items content)

-- the same of files together
abbrev pub total_positions : List File → List (Option Json) → ℕ
total_positions [] contents = 0
total_positions (f ∷ fs) [] = 0
total_positions (f ∷ fs) (content ∷ contents) = file_positions f content + total_positions fs contents

-- the contents of the feature files
abbrev pub AreContents : Files → List (Option Json) → Type 0
AreContents files contents = AllZip IsContent (drop 1 files.slots) contents

-- how many positions the longest ring of a geometry of this kind has
abbrev pub longest_ring : Geometry → Json → ℕ
longest_ring kind.Shape v = longest_of (ring_places v)
longest_ring _ v = 0

abbrev pub one_unless_null : Json → ℕ
one_unless_null v = if is_null v then 0 else 1

-- origin, intermediaries and destination of a relationship that aren't null
abbrev pub elements : Json → ℕ
elements v =
    one_unless_null (item.property v property.Origin)
    + sum_by one_unless_null (listed (item.property v property.Intermediary))
    + one_unless_null (item.property v property.Destination)
