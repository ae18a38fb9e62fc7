-- What geometries ask of a JSON value.
use Rattle.std.specs.Prelude.{ℕ, List, [], Bool, false, unwrap_or, IsSome}
use Rattle.std.specs.Str.{bytes_eq}
use Rattle.exact_json.specs.Json.{Json, text, list_values}

-- the items of a list, none of another value
abbrev pub listed : Json → List Json
listed value = unwrap_or (list_values value) []

-- the value is a list
abbrev pub IsList : Json → Type 0
IsList value = IsSome (list_values value)

-- whether the value is this text
abbrev pub is_text : Json → List ℕ → Bool
is_text (text s) name = bytes_eq s name
is_text _ name = false
