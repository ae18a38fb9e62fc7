use Rattle.std.proofs.Common.{arith}
use Rattle.unit_sight.proofs.Ones.{ones_all}
use Rattle.unit_sight.proofs.words.ones_of.Goals as goal

pub returns-clause-is : goal.returns-clause-is
returns-clause-is c = ones_all c.args.word (omega arith)
