use Rattle.std.proofs.lemmas.Result.{IfOk-weaker}
use Rattle.ring_rules.proofs.EdgeLemmas.{crosses_by}
use Rattle.ring_rules.proofs.crossings.crosses_itself.Goals as goal

pub returns : goal.returns
returns c = IfOk-weaker c.ring_crosses.result _ _ (λ crosses h. crosses_by c.args.ring.now crosses h) c.ring_crosses.ensures
