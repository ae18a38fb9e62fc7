use Rattle.link_graph.proofs.faults.GraphFault.findings.Goals as goal

pub returns-in_ok-findings-in-Some-clause-all : goal.returns-in_ok-findings-in-Some-clause-all
returns-in_ok-findings-in-Some-clause-all c = λ features settings fault.
    c.in_ok-findings-in-Some.ensures.all features settings (c.in-Some.ensures features settings fault)
