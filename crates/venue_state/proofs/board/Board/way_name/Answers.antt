-- A number below the count has an identifier.
use Rattle.std.proofs.Common.{arith}
use Rattle.route_search.specs.Graphs.{network}
use Rattle.venue_state.proofs.NameLemmas.{way_named, way_nameless}
use Rattle.venue_state.proofs.board.Board.way_name.Goals as goal

pub returns-then-k-closables : goal.returns-then-k-closables
returns-then-k-closables c = way_named c.args.self.now _ c.args.k _ c.graph-graph.ensures.closables_are c.closable_id.ensures

pub returns-else-k-closables : goal.returns-else-k-closables
returns-else-k-closables c = way_nameless c.args.self.now (network c.graph-graph.result.now).closables c.args.k c.graph-graph.ensures.closables_are (omega arith)
