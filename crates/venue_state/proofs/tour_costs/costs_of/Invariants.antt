use Rattle.venue_state.specs.Touring.{AreCostsTo}
use Rattle.venue_state.proofs.tour_costs.costs_of.Given as goal

abbrev pub invariant-loop-i : goal.invariant-loop-i
invariant-loop-i l = AreCostsTo l.table l.rows l.i
