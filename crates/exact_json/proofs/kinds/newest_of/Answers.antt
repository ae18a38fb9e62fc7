use Rattle.std.proofs.Common.{Some, ap, ◌∙◌}
use Rattle.exact_json.proofs.BitLemmas.{newest_kind}
use Rattle.exact_json.proofs.kinds.newest_of.Goals as goal

pub returns : goal.returns
returns c = ap Some c.kind_of_bit.ensures ∙ newest_kind c.args.kinds c.requires
