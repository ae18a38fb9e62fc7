use Rattle.link_graph.proofs.Ranges.{link_range}
use Rattle.link_graph.proofs.laws.range_law.Goals as goal

pub returns-clause-from : goal.returns-clause-from
returns-clause-from c = λ features settings link h. (link_range features settings link h).from

pub returns-clause-to : goal.returns-clause-to
returns-clause-to c = λ features settings link h. (link_range features settings link h).to

pub returns-clause-via : goal.returns-clause-via
returns-clause-via c = λ features settings link h. (link_range features settings link h).via

pub returns-clause-cost : goal.returns-clause-cost
returns-clause-cost c = λ features settings link h. (link_range features settings link h).cost

pub returns-clause-apart : goal.returns-clause-apart
returns-clause-apart c = λ features settings link h. (link_range features settings link h).apart
