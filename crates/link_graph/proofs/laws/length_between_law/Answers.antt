use Rattle.link_graph.proofs.Lengths.{between_length, between_bound}
use Rattle.link_graph.proofs.laws.length_between_law.Goals as goal

pub returns-clause-length : goal.returns-clause-length
returns-clause-length c = between_length

pub returns-clause-bound : goal.returns-clause-bound
returns-clause-bound c = between_bound
