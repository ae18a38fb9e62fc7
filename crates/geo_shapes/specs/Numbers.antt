-- The two definitions of a number token (RFC 8259, section 6): by what follows its parts, and by the parts themselves.
use Rattle.std.specs.Prelude.{ℕ, ◌↔◌, List}
use Rattle.exact_json.specs.Json.{Json, AllNumbers}
use Rattle.exact_json.specs.Number.{IsNumber}
use Rattle.exact_json.specs.Grammar.{IsJson}
use Rattle.geo_decimal.specs.Number.{IsNumber as IsDecimal}

-- A token is a number by the one exactly where it is by the other.
abbrev pub SameNumbers : Type 0
SameNumbers = (token : List ℕ) → IsNumber token ↔ IsDecimal token

-- The token of each number in the value of a text is a number, of which `nano` never says that its form is broken.
abbrev pub HasDecimals : Type 0
HasDecimals = (bytes : List ℕ) (value : Json) → IsJson bytes value → AllNumbers IsDecimal value
