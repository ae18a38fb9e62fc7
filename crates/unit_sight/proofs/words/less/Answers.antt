use Rattle.std.proofs.Common.{arith}
use Rattle.unit_sight.proofs.Ones.{less_bits}
use Rattle.unit_sight.proofs.words.less.Goals as goal

pub returns : goal.returns
returns c = λ k low. less_bits c.args.word c.args.other k (omega arith) low
