use Rattle.std.specs.Prelude.{Bool, ℕ, ◌<◌, List, length}
use Rattle.std.proofs.lemmas.List.Elements.{All-from_recursion}
use Rattle.link_graph.specs.declared.areas.Area.{Area}
use Rattle.link_graph.specs.Areas.{areas}
use Rattle.link_graph.specs.Graphs.{network}
use Rattle.route_answers.proofs.Units.{numbers_apart, numbers_rise, numbers_within}
use Rattle.route_answers.proofs.starts.units_law.Goals as goal

pub returns-clause-within : goal.returns-clause-within
returns-clause-within c =
    let graph = c.args.graph.now in
    All-from_recursion (λ (area : Area × List ℕ × List (List Bool)). area.0.via < length (network graph).closables) (areas graph) (numbers_within graph)

pub returns-clause-rise : goal.returns-clause-rise
returns-clause-rise c = numbers_rise c.args.graph.now

pub returns-clause-apart : goal.returns-clause-apart
returns-clause-apart c = numbers_apart c.args.graph.now
