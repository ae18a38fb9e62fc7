-- Why the system hands out no connection.
use Rattle.std.specs.Prelude.{ℤ, pos, List, [], ◌∷◌, Option, Contains}
use Rattle.std.specs.Option.{IsSomeAnd}

-- the numbers of the errors on Linux that say that there is no room for a connection: ENOMEM, ENFILE, EMFILE, ENOBUFS
abbrev pub full_codes : List ℤ
full_codes = pos 12 ∷ pos 23 ∷ pos 24 ∷ pos 105 ∷ []

-- an error of this number says that there is no room
abbrev pub IsFull : Option ℤ → Type 0
IsFull code = IsSomeAnd code (Contains full_codes)
