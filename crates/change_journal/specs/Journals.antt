-- A journal as its clauses see it, and what its type keeps.
use Rattle.std.specs.Prelude.{ℕ, ◌≤◌, ◌*◌, ◌^◌, List, Bool}
use Rattle.venue_ports.specs.Moments.{Moment, Now}
use Rattle.change_journal.specs.States.{IsReady}
use Rattle.change_journal.specs.Told.{recorded}

-- the disk, and how many records it has
pub record Held (K : Type 0) : Type 0 where
  pub disk : K
  pub count : ℕ

-- the gate stands behind so many records, and is known to be shut or isn't; each record has less than 2^30 bytes
pub record IsKept (moments : List Moment) (gate count : ℕ) (is_shut : Bool) : Type 0 where
  pub ready : Now (IsReady (recorded count moments) gate is_shut) moments
  pub room : gate ≤ count * 2 ^ 30
  pub many : count ≤ 2 ^ 32
