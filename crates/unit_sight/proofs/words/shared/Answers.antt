use Rattle.unit_sight.proofs.Masks.{shared_bits}
use Rattle.unit_sight.proofs.words.shared.Goals as goal

pub returns : goal.returns
returns c = λ k. shared_bits c.args.word c.args.other k
