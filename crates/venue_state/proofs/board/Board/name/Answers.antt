-- A number below the count has a node.
use Rattle.std.proofs.Common.{◌∙◌, arith}
use Rattle.route_search.specs.Graphs.{network}
use Rattle.venue_state.proofs.NameLemmas.{named, nameless}
use Rattle.venue_state.proofs.board.Board.name.Goals as goal

pub returns-then-n-nodes : goal.returns-then-n-nodes
returns-then-n-nodes c = c.node_name.ensures ∙ named c.args.self.now _ c.args.n _ c.graph-graph.ensures.nodes_are c.node.ensures

pub returns-else-n-nodes : goal.returns-else-n-nodes
returns-else-n-nodes c = nameless c.args.self.now (network c.graph-graph.result.now).nodes c.args.n c.graph-graph.ensures.nodes_are (omega arith)
