use Rattle.std.proofs.Common.{ℕ, ◌<◌}
use Rattle.venue_nodes.specs.Crowds.{IsOver}
use Rattle.venue_nodes.proofs.limits.first_over.Given as goal

-- none of the units before has too many members
abbrev pub invariant-loop-w : goal.invariant-loop-w
invariant-loop-w l = (v j : ℕ) → v < l.w → ¬ IsOver l.rows l.counts v j
