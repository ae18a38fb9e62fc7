use Rattle.std.proofs.Common.{◌≡◌, ℕ, ◌<◌, List, Some}
use Rattle.std.specs.Prelude.{slice_get}
use Rattle.venue_nodes.specs.Crowds.{IsRoomy}
use Rattle.venue_nodes.specs.Rows.{row_list}
use Rattle.venue_nodes.proofs.limits.crowded.Given as goal

-- each row before has room
abbrev pub invariant-loop-w : goal.invariant-loop-w
invariant-loop-w l = (v : ℕ) (other : List ℕ) → v < l.w → slice_get (row_list l.rows) v ≡ Some other → IsRoomy other
