use Rattle.venue_state.specs.Touring.{IsCostRowTo}
use Rattle.venue_state.proofs.tour_costs.cost_row.Given as goal

abbrev pub invariant-loop-j : goal.invariant-loop-j
invariant-loop-j l = IsCostRowTo l.table l.fn.i l.row l.j
