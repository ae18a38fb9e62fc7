use Rattle.std.proofs.Common.{ap, arith}
use Rattle.venue_types.specs.declared.link.Link.{Link}
use Rattle.link_graph.specs.Cores.{spot_in}
use Rattle.link_graph.proofs.Lengths.{between_bound}
use Rattle.link_graph.proofs.graph.Graph.across.Goals as goal

pub returns-clause-cost : goal.returns-clause-cost
returns-clause-cost c =
    let core = c.args.self.now.core in
    let bound = between_bound (spot_in core c.args.a) (spot_in core c.args.b) core.kx core.ky in
    let same = ap (λ (link : Link). link.cost) c.across_link.ensures in
    omega (arith, bound, same)
