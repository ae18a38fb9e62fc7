use Rattle.std.proofs.Common.{arith}
use Rattle.exact_json.proofs.BitLemmas.{added_kind}
use Rattle.exact_json.proofs.kinds.added.Goals as goal

pub returns-clause-value : goal.returns-clause-value
returns-clause-value c = added_kind c.args.kinds c.bit.result _ c.args.kind c.requires.0 c.requires.1 c.bit.ensures.small c.bit.ensures.value (omega arith)
