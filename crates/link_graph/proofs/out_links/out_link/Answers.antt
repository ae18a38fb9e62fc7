use Rattle.link_graph.specs.Cores.{link_by}
use Rattle.link_graph.proofs.LeadingEnds.{out_ends}
use Rattle.link_graph.proofs.out_links.out_link.Goals as goal

pub across_link-requires-clause-to : goal.across_link-requires-clause-to
across_link-requires-clause-to c =
    let ends = out_ends c.args.core.now c.args.n c.args.place (link_by c.args.core.now c.in-Across.unit c.args.n c.in-Across.to) c.requires.sound c.in-Across.ensures in
    ends.to
