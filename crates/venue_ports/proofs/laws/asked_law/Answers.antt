use Rattle.venue_ports.proofs.AskedLemmas.{asked_nothing, asked_joined}
use Rattle.venue_ports.proofs.laws.asked_law.Goals as goal

pub returns-clause-nothing : goal.returns-clause-nothing
returns-clause-nothing c = asked_nothing

pub returns-clause-joined : goal.returns-clause-joined
returns-clause-joined c = asked_joined
