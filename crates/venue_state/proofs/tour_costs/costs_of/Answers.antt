-- All rows are read.
use Rattle.std.proofs.Common.{◌≡◌, subst, arith}
use Rattle.venue_state.specs.Touring.{AreCostsTo}
use Rattle.venue_state.proofs.TourTables.{all_costs}
use Rattle.venue_state.proofs.tour_costs.costs_of.Goals as goal

pub returns-clause-costs : goal.returns-clause-costs
returns-clause-costs c =
    let all : c.loop-i.i ≡ 10 = omega arith in
    all_costs c.args.table.now (record { stops = c.args.stops; rows = c.loop-i.rows }) (subst (AreCostsTo c.args.table.now c.loop-i.rows) all c.loop-i.invariant)
