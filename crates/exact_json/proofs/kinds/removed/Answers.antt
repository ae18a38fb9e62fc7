use Rattle.std.proofs.Common.{arith}
use Rattle.exact_json.proofs.BitLemmas.{removed_kind}
use Rattle.exact_json.proofs.kinds.removed.Goals as goal

pub returns-clause-value : goal.returns-clause-value
returns-clause-value c = removed_kind c.args.kinds c.requires (omega arith)
