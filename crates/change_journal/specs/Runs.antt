-- Runs of calls on a disk.
use Rattle.std.specs.Prelude.{◌≡◌, ℕ, List, []}
use Rattle.venue_ports.specs.Moments.{Moment, LeavesOnly, Now}

-- whatever a stop has left since old has P, the newest moment has S, and a disk that told nothing tells nothing
pub record Run (P : List ℕ → Type 0) (S : Moment → Type 0) (old new : List Moment) : Type 0 where
  pub only : LeavesOnly P old new
  pub now : Now S new
  pub untold : old ≡ [] → new ≡ []
