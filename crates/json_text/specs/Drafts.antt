-- A draft: a text that is written into room taken beforehand, or only counted.
use Rattle.std.specs.Prelude.{ℕ, ◌+◌, ◌-◌, ◌^◌, List, [], ◌++◌, length, take, min}

-- the room that was taken, the bytes that are held there, and how many there are in all, as far as 64 bits go
pub record Drafted : Type 0 where
  pub room : ℕ
  pub bytes : List ℕ
  pub len : ℕ

-- an empty draft with room for n bytes
abbrev pub fresh : ℕ → Drafted
fresh n = record { room = n; bytes = []; len = 0 }

-- a piece added: what finds room is held behind the bytes before it, and all of it is counted
unfoldable pub onto : Drafted → List ℕ → Drafted
onto d s = record { room = d.room; bytes = d.bytes ++ take (d.room - length d.bytes) s; len = d.len + min (length s) (2 ^ 64 - 1 - d.len) }
