-- What an object in memory is planned to do.
use Rattle.std.specs.Prelude.{ℕ, ◌-◌, List, Option, Some, None, length, min, max, Contains}
use Rattle.venue_ports.specs.Causes.{one_more}

-- the numbers of the calls that are to fail, from 1, and how many calls there were
pub record Plan : Type 0 where
  pub failing : List ℕ
  pub calls : ℕ

-- before the first call
abbrev pub fresh : List ℕ → Plan
fresh failing = record { failing = failing; calls = 0 }

-- the next call is one that is to fail
abbrev pub FailsNext : Plan → Type 0
FailsNext plan = Contains plan.failing (one_more plan.calls)

-- after one call more
abbrev pub called : Plan → Plan
called plan = record plan { calls = one_more plan.calls }

-- as much of a count as a piece lets through, where a piece of 0 counts as 1, and past the last piece all of it
abbrev pub within_piece : Option ℕ → ℕ → ℕ
within_piece None count = count
within_piece (Some size) count = min count (max size 1)

-- bytes, and the room that was made for them, which doesn't grow
pub record Held : Type 0 where
  pub bytes : List ℕ
  pub room : ℕ

-- how many bytes more there is room for
abbrev pub room_left : Held → ℕ
room_left held = held.room - length held.bytes
