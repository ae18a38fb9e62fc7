use Rattle.std.proofs.Common.{length}
use Rattle.route_certificate.proofs.PriceLemmas.{costs_of}
use Rattle.route_certificate.proofs.walk_price.price.Goals as goal

pub follow-requires-clause-costs : goal.follow-requires-clause-costs
follow-requires-clause-costs c = rw c.as_slice.ensures (costs_of (length c.args.table.now.nodes) c.args.table.now.links c.requires.table.links)
