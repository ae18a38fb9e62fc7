use Rattle.std.proofs.Common.{rules}
use Rattle.gen_text.specs.Texts.{ordinal}
use Rattle.gen_text.proofs.items.ordinal.Goals as goal

pub returns : goal.returns
unfolding ordinal
returns c = search rules
