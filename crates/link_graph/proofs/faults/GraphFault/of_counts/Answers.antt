use Rattle.link_graph.proofs.faults.GraphFault.of_counts.Goals as goal

pub returns-in-Ok : goal.returns-in-Ok
returns-in-Ok c = λ many. c.of.ensures c.args.features.now c.args.settings.now (c.in-Ok.ensures many)
