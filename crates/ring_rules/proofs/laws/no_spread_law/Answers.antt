use Rattle.ring_rules.proofs.SpreadLemmas.{no_spread}
use Rattle.ring_rules.proofs.laws.no_spread_law.Goals as goal

pub returns : goal.returns
returns c features none = no_spread features none
