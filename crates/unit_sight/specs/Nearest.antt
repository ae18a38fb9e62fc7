-- The nearest of some places, looked for in order: named by no public clause.
use Rattle.std.specs.Prelude.{◌≡◌, ℕ, nat_lt, List, Option, Some, None, if◌then◌else◌, IfSome}
use Rattle.unit_sight.specs.declared.hosts.Distant.{Distant}
use Rattle.unit_sight.specs.Joined.{nearest}

-- the nearer of the best so far and a place behind it
abbrev pub nearer_one : Option Distant → Distant → Distant
nearer_one None next = next
nearer_one (Some one) next = if nat_lt next.length one.length then next else one

-- its place
abbrev pub place_of : Option Distant → Option ℕ
place_of None = None
place_of (Some one) = Some one.place

-- a place is the nearest of these, and how far it is
pub record IsNearest (far : ℕ → ℕ) (list : List ℕ) (best : Option Distant) : Type 0 where
  pub place : nearest far list ≡ place_of best
  pub length : IfSome best (λ one. one.length ≡ far one.place)
