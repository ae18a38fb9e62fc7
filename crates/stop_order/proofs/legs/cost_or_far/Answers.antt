-- What is read is what the table says.
use Rattle.std.proofs.Common.{◌∙◌}
use Rattle.stop_order.proofs.LegLemmas.{read_or_far}
use Rattle.stop_order.proofs.legs.cost_or_far.Goals as goal

pub returns : goal.returns
returns c = c.unwrap_or.ensures ∙ read_or_far c.args.costs.now c.args.from c.args.to
