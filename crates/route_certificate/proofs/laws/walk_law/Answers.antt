use Rattle.route_certificate.proofs.WalkLemmas.{one_walk}
use Rattle.route_certificate.proofs.laws.walk_law.Goals as goal

pub returns-clause-one_walk : goal.returns-clause-one_walk
returns-clause-one_walk c = one_walk
