use Rattle.std.proofs.Common.{sym}
use Rattle.route_search.proofs.OneNode.{no_bound}
use Rattle.route_search.proofs.search.least.Goals as goal

pub cut-requires-clause-whole : goal.cut-requires-clause-whole
cut-requires-clause-whole g c = no_bound c.in_ok-found.found c.args.to c.in_ok-found.ensures.enough (sym c.in-None.ensures.cost)
