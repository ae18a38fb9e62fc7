use Rattle.link_graph.proofs.Joined.{whole_straight, whole_seeing, whole_blind}
use Rattle.link_graph.proofs.laws.whole_law.Goals as goal

pub returns-clause-straight : goal.returns-clause-straight
returns-clause-straight c = whole_straight

pub returns-clause-seeing : goal.returns-clause-seeing
returns-clause-seeing c = whole_seeing

pub returns-clause-blind : goal.returns-clause-blind
returns-clause-blind c = whole_blind
