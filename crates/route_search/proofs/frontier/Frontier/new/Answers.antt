use Rattle.std.proofs.Common.{rules, ap, length}
use Rattle.route_search.specs.Waiting.{waiting}
use Rattle.route_search.proofs.Heaps.{none_waits}
use Rattle.route_search.proofs.frontier.Frontier.new.Goals as goal

pub returns-clause-empty : goal.returns-clause-empty
returns-clause-empty c = none_waits _ (ap length c.new.ensures.items)

pub returns-clause-len : goal.returns-clause-len
unfolding waiting
returns-clause-len c = search rules
