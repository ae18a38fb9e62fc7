use Rattle.link_graph.proofs.graph.Graph.build.Goals as goal

pub returns-in-Some-clause-fault : goal.returns-in-Some-clause-fault
returns-in-Some-clause-fault c =
    c.of-in-Some.ensures c.args.features.now c.args.settings.now c.in-Some.ensures
