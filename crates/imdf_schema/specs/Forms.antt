-- The forms of properties.
use Rattle.std.specs.Prelude.{List, [], ◌∷◌, Option, None, Bool, true, false, is_some, not, ◌||◌, ◌&&◌, option_and_then, unwrap_or, IsTrue, ◌⊎◌, codes}
use Rattle.venue_types.specs.declared.point.Point.{Point}
use Rattle.exact_json.specs.Json.{Json, text_bytes, list_values, member}
use Rattle.geo_shapes.specs.Geometry.{HasPoint}
use Rattle.venue_types.specs.declared.folder_file.File.{File}
use Rattle.imdf_schema.specs.declared.forms.Form.{Form}
use Rattle.imdf_schema.specs.declared.forms.Form.TheVariants as form
use Rattle.venue_types.specs.FolderFiles.{file_of_type}
use Rattle.imdf_schema.specs.Values.{is_null, is_object, is_list, is_text, is_word, listed, is_id, has_texts}

-- the file whose feature type it names
unfoldable pub type_of : Json → Option File
type_of v = option_and_then file_of_type (text_bytes v)

-- a reference: an object with an identifier and a feature type
abbrev pub is_reference : Json → Bool
is_reference v = is_id (member v (codes "id")) && is_some (type_of (member v (codes "feature_type")))

-- a door: an object whose type is null or a text
abbrev pub is_door : Json → Bool
is_door v = is_object v && (is_null (member v (codes "type")) || is_text (member v (codes "type")))

-- a name: an object of texts
abbrev pub is_name : Json → Bool
is_name v = is_object v && has_texts v

-- a Point (RFC 7946, section 3.1.2) whose coordinates are a position
abbrev pub IsPlace : Json → Type 0
IsPlace v = IsTrue (is_word (member v (codes "type")) (codes "Point")) × ((point : Point) × HasPoint v point)

abbrev pub is_empty : List Json → Bool
is_empty [] = true
is_empty (x ∷ xs) = false

-- the value is of the form, apart from the items of a list
abbrev pub Fits : Form → Json → Type 0
Fits form.Id v = IsTrue (is_id v)
Fits form.IdOrNull v = IsTrue (is_null v || is_id v)
Fits form.Ids v = IsTrue (not (is_empty (listed v)))
Fits form.IdsOrNull v = IsTrue (is_null v || is_list v)
Fits form.Reference v = IsTrue (is_null v || is_reference v)
Fits form.References v = IsTrue (is_null v || is_list v)
Fits form.Text v = IsTrue (is_text v)
Fits form.TextOrNull v = IsTrue (is_null v || is_text v)
Fits form.TextsOrNull v = IsTrue (is_null v || is_list v)
Fits form.Door v = IsTrue (is_null v || is_door v)
Fits form.DisplayPoint v = IsTrue (is_null v) ⊎ IsPlace v
Fits form.Name v = IsTrue (is_null v || is_name v)

-- the list that a value is, if its form is a list
abbrev pub list_of : Form → Json → Option (List Json)
list_of form.Ids v = list_values v
list_of form.IdsOrNull v = list_values v
list_of form.References v = list_values v
list_of form.TextsOrNull v = list_values v
list_of _ v = None

-- the items of a value whose form is a list, none where it is no list
abbrev pub items_of : Form → Json → List Json
items_of f v = unwrap_or (list_of f v) []

-- whether an item of the list is of the form
abbrev pub item_fits : Form → Json → Bool
item_fits form.Ids v = is_id v
item_fits form.IdsOrNull v = is_id v
item_fits form.References v = is_reference v
item_fits form.TextsOrNull v = is_text v
item_fits _ v = true
