use Rattle.std.proofs.Common.{sym, ◌∙◌, subst}
use Rattle.link_graph.specs.Graphs.{network}
use Rattle.link_graph.specs.declared.stretches.Way.{Way}
use Rattle.route_search.specs.Scans.{IsMarkable}
use Rattle.route_search.proofs.PassedOver.{over_marked}
use Rattle.route_search.proofs.passed_links.is_passed_over.Goals as goal

pub returns-then-is_marked : goal.returns-then-is_marked
returns-then-is_marked c _ =
    over_marked (network c.args.ways.now.graph.now) c.args.ways.now.marks.now c.args.ways.now.profile.now c.args.ways.now.number c.args.way c.in-Inside.via c.in-Inside.kind c.in-Inside.restricted c.in-Inside.is
    (subst (λ (way : Way). IsMarkable (network c.args.ways.now.graph.now) way) c.in-Inside.is c.requires.way) (sym c.is_marked.ensures ∙ c.if-is_marked.true)
