use Rattle.unit_sight.proofs.Ones.{without_bits}
use Rattle.unit_sight.proofs.words.without_bit.Goals as goal

pub returns : goal.returns
returns c = λ i low. without_bits c.args.word c.args.k i c.requires low
