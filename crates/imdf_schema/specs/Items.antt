-- Feature files and features (RFC 7946, sections 3.2 and 3.3).
use Rattle.std.specs.Prelude.{ℕ, List, [], Option, Bool, true, ◌||◌, ◌&&◌, unwrap_or, codes}
use Rattle.exact_json.specs.Json.{Json, list_values, member}
use Rattle.venue_types.specs.declared.folder_file.Geometry.{Geometry}
use Rattle.venue_types.specs.declared.folder_file.Geometry.TheVariants as kind
use Rattle.imdf_schema.specs.declared.table.Property.{Property}
use Rattle.imdf_schema.specs.Properties.{property_name}
use Rattle.imdf_schema.specs.Values.{is_null, is_object, is_list, is_word}

-- a collection: an object of the type "FeatureCollection" with a list of features
abbrev pub is_collection : Json → Bool
is_collection v = is_word (member v (codes "type")) (codes "FeatureCollection") && is_list (member v (codes "features"))

-- the list of features of a feature file, whatever its type
abbrev pub feature_list : Json → Option (List Json)
feature_list v = list_values (member v (codes "features"))

-- its items, none where there is no list
abbrev pub items_in : Json → List Json
items_in v = unwrap_or (feature_list v) []

-- a feature: an object of the type "Feature" with properties
abbrev pub is_feature : Json → Bool
is_feature item = is_word (member item (codes "type")) (codes "Feature") && is_object (member item (codes "properties"))

-- the geometry of a feature
abbrev pub geometry : Json → Json
geometry item = member item (codes "geometry")

-- a property of a feature
abbrev pub property : Json → Property → Json
property item p = member (member item (codes "properties")) (property_name p)

-- a property of a feature that the table of properties lacks, by its name
abbrev pub unlisted_property : Json → List ℕ → Json
unlisted_property item name = member (member item (codes "properties")) name

-- whether the value is null, or an object of one of the types, as the file asks for its geometry
abbrev pub fits_geometry : Geometry → Json → Bool
fits_geometry kind.Null v = is_null v
fits_geometry kind.Point v = is_word (member v (codes "type")) (codes "Point")
fits_geometry kind.Line v = is_word (member v (codes "type")) (codes "LineString")
fits_geometry kind.Shape v = is_word (member v (codes "type")) (codes "Polygon") || is_word (member v (codes "type")) (codes "MultiPolygon")
fits_geometry kind.Unjudged v = true
