-- The number of a place is that of a node.
use Rattle.std.proofs.Common.{◌∙◌}
use Rattle.venue_state.proofs.Placing.{some_within}
use Rattle.venue_state.proofs.board.Board.node_of.Goals as goal

pub returns-clause-within : goal.returns-clause-within
returns-clause-within c = some_within c.args.self.now.features c.args.self.now.settings c.args.id c.node_of.result (c.node_of.ensures ∙ c.graph.ensures.place_is c.args.id)
