-- How the code goes about a message: its body is read first, then judged. No definition of the public contract.
use Rattle.std.specs.Prelude.{ℕ, List, Option, Some, None}
use Rattle.serde_json.specs.Data.{Data}
use Rattle.serde_json.specs.View.{view}
use Rattle.serde_json.specs.declared.value.Value.{Value}
use Rattle.venue_wire.specs.Bodies.{IsBody}

-- the body was read as this, if it is a value
abbrev pub IsReadAs : List ℕ → Option Value → Type 0
IsReadAs body None = (value : Data) → ¬ IsBody body value
IsReadAs body (Some value) = IsBody body (view value)
