use Rattle.std.proofs.Common.{arith}
use Rattle.venue_nodes.proofs.Counts.{are_few, few_places, few_closables}
use Rattle.venue_nodes.proofs.Behind.{few_nodes, straight_nodes, clear_nodes}
use Rattle.venue_nodes.proofs.node_laws.few_law.Goals as goal

pub returns-clause-places : goal.returns-clause-places
returns-clause-places c = λ features sound. let few = few_places features (are_few features sound) in omega arith

pub returns-clause-nodes : goal.returns-clause-nodes
returns-clause-nodes c = few_nodes

pub returns-clause-straight : goal.returns-clause-straight
returns-clause-straight c = straight_nodes

pub returns-clause-clear : goal.returns-clause-clear
returns-clause-clear c = clear_nodes

pub returns-clause-closables : goal.returns-clause-closables
returns-clause-closables c = λ features sound. let few = few_closables features (are_few features sound) in omega arith
