use Rattle.std.proofs.Common.{◌∙◌, sym}
use Rattle.std.proofs.lemmas.Result.{IfOk-weaker}
use Rattle.version_board.specs.Closed.{Version}
use Rattle.version_board.specs.Histories.{Replays}
use Rattle.version_board.specs.Halls.{facts_of}
use Rattle.venue_commands.specs.BuildingReports.{IsNamed}
use Rattle.venue_commands.specs.Costs.{IsCostBetween, IsCost}
use Rattle.venue_commands.proofs.Costing.{cost_of_numbers}
use Rattle.venue_commands.proofs.building.ways.cost.Goals as goal

pub returns-in-Some-Some-clause-cost : goal.returns-in-Some-Some-clause-cost
returns-in-Some-Some-clause-cost c =
    let from = c.in-Some-Some.from in
    let to = c.in-Some-Some.to in
    let is_from : IsNamed c.args.start from = sym c.in_ok-start.ensures ∙ c.in-Some-Some.is-0 in
    let is_to : IsNamed c.args.finish to = sym c.in_ok-finish.ensures ∙ c.in-Some-Some.is-1 in
    IfOk-weaker c.cost_between.result (λ cost. (v : Version) → Replays (facts_of c.args.hall.now).seen v → IsCostBetween v c.args.name.now from to cost)
    (λ cost. (v : Version) → Replays (facts_of c.args.hall.now).seen v → IsCost v c.args.name.now c.args.start c.args.finish cost)
    (λ cost is v stands. cost_of_numbers v c.args.name.now c.args.start c.args.finish from to cost is_from is_to (is v stands)) c.cost_between.ensures.cost
