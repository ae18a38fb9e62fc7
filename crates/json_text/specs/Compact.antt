-- The compact text of a JSON value (RFC 8259): the one without white space, in which texts have no escape that isn't needed.
use Rattle.std.specs.Prelude.{ℕ, ◌+◌, ◌/◌, ◌%◌, List, [], ◌∷◌, ◌++◌, true, false, ◌||◌, ◌==◌, nat_lt, if◌then◌else◌, codes}
use Rattle.exact_json.specs.Json.{Json, null, boolean, number, text, items, object, Items, no_items, item, Members, no_pairs, pair}

-- a hexadecimal digit, in lower case
abbrev pub hex_digit : ℕ → ℕ
hex_digit n = if nat_lt n 10 then 48 + n else 87 + n

-- a byte of a text as it stands between quotes: a control as `\u00` and two digits, a quote and a backslash behind a backslash
abbrev pub escaped_byte : ℕ → List ℕ
escaped_byte x =
    if nat_lt x 32 then codes "\\u00" ++ hex_digit (x / 16) ∷ hex_digit (x % 16) ∷ []
    else if (x == 34) || (x == 92) then 92 ∷ x ∷ []
    else x ∷ []

abbrev pub escaped : List ℕ → List ℕ
escaped [] = []
escaped (x ∷ xs) = escaped_byte x ++ escaped xs

abbrev pub quoted : List ℕ → List ℕ
quoted s = 34 ∷ (escaped s ++ 34 ∷ [])

abbrev mutual
  pub compact : Json → List ℕ
  compact null = codes "null"
  compact (boolean true) = codes "true"
  compact (boolean false) = codes "false"
  compact (number t) = t
  compact (text s) = quoted s
  compact (items js) = 91 ∷ (first_items js ++ 93 ∷ [])
  compact (object ms) = 123 ∷ (first_pairs ms ++ 125 ∷ [])

  -- the values of a list, with commas between them
  pub first_items : Items → List ℕ
  first_items no_items = []
  first_items (item j js) = compact j ++ more_items js

  pub more_items : Items → List ℕ
  more_items no_items = []
  more_items (item j js) = 44 ∷ (compact j ++ more_items js)

  -- the members of an object, with commas between them
  pub first_pairs : Members → List ℕ
  first_pairs no_pairs = []
  first_pairs (pair k j ms) = (quoted k ++ 58 ∷ compact j) ++ more_pairs ms

  pub more_pairs : Members → List ℕ
  more_pairs no_pairs = []
  more_pairs (pair k j ms) = 44 ∷ ((quoted k ++ 58 ∷ compact j) ++ more_pairs ms)
