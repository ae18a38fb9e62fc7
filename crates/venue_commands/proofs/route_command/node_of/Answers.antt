use Rattle.std.proofs.Common.{◌∙◌}
use Rattle.venue_commands.proofs.RouteJudging.{place_below}
use Rattle.venue_commands.proofs.route_command.node_of.Goals as goal

pub returns-clause-within : goal.returns-clause-within
returns-clause-within c = place_below c.number_law.ensures.place c.args.venue.now.features c.args.venue.now.settings c.args.id c.node_of.result (c.node_of.ensures ∙ c.graph.ensures.place_is c.args.id)
