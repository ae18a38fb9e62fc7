use Rattle.std.proofs.Common.{◌++◌, ap, ap₂, ◌∙◌}
use Rattle.exact_json.specs.Bits.{words}
use Rattle.exact_json.proofs.BitLemmas.{empty_word, no_words}
use Rattle.exact_json.proofs.kinds.Kinds.new.Goals as goal

pub returns : goal.returns
returns c = ap₂ (λ a b. a ++ b) empty_word (ap words c.new.ensures.items ∙ no_words)
