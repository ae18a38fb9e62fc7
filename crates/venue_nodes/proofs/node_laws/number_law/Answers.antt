use Rattle.venue_nodes.specs.Nodes.{closables}
use Rattle.venue_nodes.proofs.Finding.{stands_there}
use Rattle.venue_nodes.proofs.Once.{closables_once, own_number}
use Rattle.venue_nodes.proofs.Placed.{place_within}
use Rattle.venue_nodes.proofs.node_laws.number_law.Goals as goal

pub returns-clause-place : goal.returns-clause-place
returns-clause-place c = place_within

pub returns-clause-closable : goal.returns-clause-closable
returns-clause-closable c = λ features id k e. stands_there (closables features) id k e

pub returns-clause-own : goal.returns-clause-own
returns-clause-own c = λ features id k own at. own_number (closables features) id k (closables_once features own) at
